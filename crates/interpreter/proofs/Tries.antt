-- What one try does: by the room on the page and by what stands at the place; a command lies within the bytes.
use Prim.Native.Nat.{ℕ, ◌+◌, ◌-◌, ◌≤◌}
use mathlib.Core.Bool.{Bool, true, false}
use mathlib.Core.List.{List}
use mathlib.Core.Path.{◌≡◌, refl, ap, ◌∙◌}
use native.Mathlib.Omega.{arith}
use lib.Dec.{leb}
use lib.ListN.{length, drop, length-drop}
use Rattle.decoder.specs.declared.types.Command.{Command}
use Rattle.std.specs.Prelude.{Ok, Err}
use Rattle.decoder.specs.Types.{Decoded}
use Rattle.decoder.specs.declared.types.DecodeError.TheVariants.{Unknown, Short, End}
use Rattle.decoder.specs.Commands.{command_from}
use Rattle.decoder.proofs.Pieces as pieces
use Rattle.ending.specs.declared.types.Rest.{Rest}
use Rattle.ending.specs.declared.types.Rest.TheVariants.{Next, More, Over}
use Rattle.ending.specs.Rest.{rest_by, rest_of}
use Rattle.printer.specs.Lines.{room}
use Rattle.interpreter.specs.declared.types.Needs.{Needs}
use Rattle.interpreter.specs.declared.types.Played.{Played}
use Rattle.interpreter.specs.Playing.{Playing, playing, Within, play_next, play_one}

-- ---- the run stands, or plays what stands at its place

-- where a run stays
abbrev stayed : Played → Needs → Played
stayed p n = record { state = p.state; read = p.read; next = p.next; needs = n }

module _ (bytes : List ℕ) (ended : Bool) (p : Played) (nodes versions tally out : List ℕ) where
  abbrev now : Playing
  now = playing p nodes versions tally out

  abbrev fits : Bool
  fits = leb (p.next + room) (length out)

  pub full : fits ≡ false → playing (stayed p Needs.Page) nodes versions tally out ≡ play_one bytes ended now
  unfolding play_one
  full f = simp f

  pub plays : (q : Playing) (x : Rest) → fits ≡ true → x ≡ rest_of bytes p.read ended → q ≡ play_next now x
      → q ≡ play_one bytes ended now
  unfolding play_one
  plays q x f h e = e ∙ simp (f, ← h)

  -- what is left of the bytes is the start of a command, or the sheet is over: the run stays where it is
  pub needs_bytes : (r : Played) → r ≡ stayed p Needs.Bytes → fits ≡ true → More ≡ rest_of bytes p.read ended
      → playing r nodes versions tally out ≡ play_one bytes ended now
  needs_bytes r e f h = plays _ More f h (ap (λ (x : Played). playing x nodes versions tally out) e)

  pub is_over_lem : (r : Played) → r ≡ stayed p Needs.Over → fits ≡ true → Over ≡ rest_of bytes p.read ended
      → playing r nodes versions tally out ≡ play_one bytes ended now
  is_over_lem r e f h = plays _ Over f h (ap (λ (x : Played). playing x nodes versions tally out) e)

-- a run that stays is within its bytes and its page
pub stays_within : {bytes out : List ℕ} (p r : Played) (n : Needs) → r ≡ stayed p n → Within p bytes out → Within r bytes out
stays_within p r n e h = rw e (record { read = h.read; next = h.next })

-- a page of the same length
pub same_page : {bytes out out' : List ℕ} (r : Played) → length out ≡ length out' → Within r bytes out → Within r bytes out'
same_page r e h = record { read = h.read; next = omega (arith, e, h.next) }

-- ---- a command lies within the bytes

-- only a whole command is played
next_whole : (ended : Bool) (d : Decoded) (c : Command) (n : ℕ) → Next c n ≡ rest_by ended d → d ≡ Ok (c, n)
unfolding rest_by
next_whole ended (Ok (c', n')) c n e = let h : (c ≡ c') × (n ≡ n') = (cc, cc) in rw (h.0, h.1) refl
next_whole true (Err Unknown) c n e = cc
next_whole false (Err Unknown) c n e = cc
next_whole true (Err Short) c n e = cc
next_whole false (Err Short) c n e = cc
next_whole true (Err End) c n e = cc
next_whole false (Err End) c n e = cc

pub next_within : (bytes : List ℕ) (ended : Bool) (at : ℕ) (c : Command) (n : ℕ) → Next c n ≡ rest_of bytes at ended
    → n ≤ length bytes - at
unfolding rest_of
next_within bytes ended at c n h =
    rw (← length-drop at bytes) (pieces.whole_within (drop at bytes) c n (next_whole ended (command_from (drop at bytes)) c n h)).1
