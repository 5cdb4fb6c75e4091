-- What demand 3 refuses of scans: stores made wrong on purpose, each with a short list after which the claim is false.
use Prim.Native.Nat.{ℕ, ◌+◌}
use mathlib.Core.List.{◌∷◌, ◌++◌}
use mathlib.Core.Path.{◌≡◌, refl, ap}
use native.Mathlib.Omega.{arith}
use lib.Dec.{lit<, lit≤}
use Rattle.linearizability.specs.Types.{Swept, Item, Starting, Stepping, Ok, Err, Progress}
use Rattle.std.specs.Prelude.{if◌then◌else◌}
use Rattle.model.specs.Numbers.{no_version}
use Rattle.model.specs.Requests as Requests
use Rattle.model.specs.Requests.{Operation}
use Rattle.model.specs.Map.{Reply}
use Rattle.model.specs.Calls.{Store}
use Rattle.model.specs.System.{After}
use Rattle.model.specs.ByValue.{by_value}
use Rattle.model.proofs.Bench.{said, start_scan, steps, put}
use Rattle.linearizability.proofs.Refuted.{Change, starting, telling, finishing, told, is, given, fresh_of, Refutation, w₁}

-- a scan of other keys than were asked for
abbrev scanning : (first last : ℕ) → Change
scanning more further = starting from
  where
    from : Store → ℕ → Operation → After Starting Store
    from w i (Requests.put k v t draw) = by_value.start w i (Requests.put k v t draw)
    from w i (Requests.get k) = by_value.start w i (Requests.get k)
    from w i (Requests.scan first last) = by_value.start w i (Requests.scan (first + more) (last + further))

-- what a step shows replaced
abbrev showing : (Item → Item) → Change
showing f = telling tells
  where
    tells : Stepping → Stepping
    tells (Err r) = Err r
    tells (Ok (Progress.Moved t)) = Ok (Progress.Moved t)
    tells (Ok (Progress.Waited t)) = Ok (Progress.Waited t)
    tells (Ok (Progress.Shown t x)) = Ok (Progress.Shown t (f x))
    tells (Ok (Progress.Finished d)) = Ok (Progress.Finished d)

-- "every tray of the span held at its start was shown": the first key is left out
abbrev pub first_missed : Change
first_missed = scanning 1 0

pub first_missed_refuted : Refutation first_missed
unfolding said
first_missed_refuted = record {
  K = 1;
  W = 1;
  fresh = w₁;
  opens = refl;
  actions = put 11 7 5 100 ++ (start_scan 0 7 9 ∷ steps 8 0);
  refutes = λ c. c.demanded.completed.0.ended.whole 7 (lit≤ tt) (lit≤ tt) (λ e. let z : ◌≡◌ {A = ℕ} 0 1 = cc in omega arith);
}

-- a key past the last
abbrev pub last_passed : Change
last_passed = scanning 0 1

pub last_passed_refuted : Refutation last_passed
unfolding said
last_passed_refuted = record {
  K = 1;
  W = 1;
  fresh = w₁;
  opens = refl;
  actions = put 11 9 5 100 ++ (start_scan 0 7 8 ∷ steps 7 0);
  refutes = λ c. omega (arith, (c.demanded.shown 0 (lit< tt)).0.0.below);
}

-- "Each reading shown was newest at its tick"
abbrev pub shows_another : Change
shows_another = showing (λ x. record { key = x.key; version = record { value = x.version.value + 1; timestamp = x.version.timestamp } })

pub shows_another_refuted : Refutation shows_another
unfolding said
shows_another_refuted = record {
  K = 1;
  W = 1;
  fresh = w₁;
  opens = refl;
  actions = put 11 7 5 100 ++ (start_scan 0 7 9 ∷ steps 7 0);
  refutes = λ c. omega (arith, ap (λ (r : Reply). r.version.value) (c.demanded.shown 0 (lit< tt)).0.0.newest);
}

-- "trays rise": of two keys with one version each the first is shown for both
abbrev pub shows_twice : Change
shows_twice = showing (λ x. record { key = 7; version = x.version })

pub shows_twice_refuted : Refutation shows_twice
unfolding said
shows_twice_refuted = record {
  K = 2;
  W = 2;
  fresh = fresh_of (given 2 2);
  opens = refl;
  actions = put 11 7 5 100 ++ put 12 9 5 100 ++ (start_scan 0 7 9 ∷ steps 8 0);
  refutes = λ c. omega (arith, (c.demanded.shown 0 (lit< tt)).1.0.0);
}

-- "The sweep's effect tick is 0"
abbrev pub scan_effective : Change
scan_effective = finishing (λ d. if is d.answer Swept then told d Swept no_version d.finish else d)

pub scan_effective_refuted : Refutation scan_effective
unfolding said
scan_effective_refuted = record {
  K = 1;
  W = 1;
  fresh = w₁;
  opens = refl;
  actions = start_scan 0 7 9 ∷ steps 7 0;
  refutes = λ c. omega (arith, c.demanded.completed.0.ended.effect);
}

-- a put that is told as swept, as if it needed no effect
abbrev pub put_swept : Change
put_swept = finishing (λ d. told d Swept no_version 0)

pub put_swept_refuted : Refutation put_swept
unfolding said
put_swept_refuted = record {
  K = 1;
  W = 1;
  fresh = w₁;
  opens = refl;
  actions = put 11 7 5 100;
  refutes = λ c. omega (arith, (c.demanded.completed.0.took_effect refl).after_start);
}
