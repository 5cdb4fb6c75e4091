-- A page leaves the run with its bytes inside the buffer, and with room for more where it needs them.
use Prim.Native.Nat.{ℕ, ◌+◌, ◌-◌, ◌≤◌}
use mathlib.Core.Bool.{true}
use mathlib.Core.List.{List}
use mathlib.Core.Path.{◌≡◌, sym, ap, ◌∙◌}
use native.Mathlib.Omega.{arith}
use lib.ListN.{length, take, drop, length-drop}
use lib.Seq.{length-take-le, take-add, drop_at, drop-drop}
use Rattle.decoder.specs.Commands.{longest_command}
use Rattle.interpreter.specs.declared.types.Played.{Played}
use Rattle.interpreter.specs.Playing.{Playing, playing, Within}
use Rattle.interpreter.proofs.Rounds.{in_rounds}
use Rattle.sheet.specs.declared.types.Run.{Run}
use Rattle.sheet.specs.Runs.{held_in, InBuffer, Ready, page_of, paged, memory, played_of}

-- the run after a page
abbrev after : Run → Played → Run
after r q = record { state = q.state; from = r.from + q.read; end = r.end; ended = r.ended; next = q.next; needs = q.needs }

module _ (r : Run) (bytes : List ℕ) (inside : InBuffer r (length bytes)) where
  pub held_long : length (held_in r bytes) ≡ r.end - r.from
  held_long =
      length-take-le (r.end - r.from) (drop r.from bytes)
      (omega (arith, inside.from, inside.end, length-drop r.from bytes))

  -- how far a page can come
  pub reach : (q : Played) (out : List ℕ) → Within q (held_in r bytes) out → r.from + q.read ≤ r.end
  reach q out w = omega (arith, held_long, w.read, inside.from)

  -- what is held after it
  pub still_held : (p : Playing) → r.from + p.read ≤ r.end → held_in (paged r p) bytes ≡ drop p.read (held_in r bytes)
  still_held p h =
      let n = p.read in
      let l = drop r.from bytes in
      let left = r.end - (r.from + n) in
      let all : r.end - r.from ≡ n + left = omega (arith, h) in
      let within : n ≤ length l = omega (arith, h, inside.end, length-drop r.from bytes) in
      ap (take left) (sym (drop-drop n r.from bytes))
      ∙ sym (drop_at (take n l) (take left (drop n l)) n (length-take-le n l within))
      ∙ ap (drop n) (sym (take-add n left l))
      ∙ ap (λ k. drop n (take k l)) (sym all)

module _ (r : Run) (bytes nodes versions tally out nodes' versions' tally' out' : List ℕ) (q : Played)
    (e : playing q nodes' versions' tally' out' ≡ page_of r bytes nodes versions tally out) where
  as_played : memory (after r q) bytes nodes' versions' tally' out' ≡ played_of (memory r bytes nodes versions tally out) true
  unfolding played_of
  as_played =
      ap
      (λ (p : Playing). memory (paged r p) bytes p.session.nodes p.session.versions p.session.tally p.page.bytes)
      e

  module _ (inside : InBuffer r (length bytes)) (w : Within q (held_in r bytes) out) where
    ready : longest_command ≤ length bytes → Ready (after r q) (length bytes)
    ready long = record {
      inside = record { from = reach r bytes inside q out w; end = inside.end };
      room = λ n.
          (let few = in_rounds.few (held_in r bytes) r.ended _ (ap (λ (p : Playing). p.needs) (sym e) ∙ n) in
          let left = length-drop (page_of r bytes nodes versions tally out).read (held_in r bytes) in
          let end = reach r bytes inside q out w in
          omega (arith, few, left, held_long r bytes inside, ap (λ (p : Playing). p.read) e, end, long));
    }

    pub page : longest_command ≤ length bytes
        → (memory (after r q) bytes nodes' versions' tally' out' ≡ played_of (memory r bytes nodes versions tally out) true)
        × Ready (after r q) (length bytes)
    page long = (as_played, ready long)
