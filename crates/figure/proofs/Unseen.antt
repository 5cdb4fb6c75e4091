-- The bounds of the figure's recursions never show: a call's steps know of none, and end but once.
use Prim.Native.Nat.{ℕ, ◌≤◌, ◌<◌}
use mathlib.Core.Path.{◌≡◌, sym}
use native.Mathlib.Omega.{arith}
use Rattle.model.specs.Layout.{Memory}
use Rattle.model.specs.Map.{Map}
use Rattle.model.specs.Calls.{top_of}
use Rattle.model.proofs.Tests.{by_le}
use Rattle.model.proofs.Laws.{top_at_most}
use Rattle.linearizability.proofs.Invariant.{Ghost, Nodes, Book}
use Rattle.figure.specs.Types.{Answer}
use Rattle.figure.specs.Figure.{HMAX, MAX, head, get, alone, put}
use Rattle.figure.specs.Alone.{Free, Unlocked}
use Rattle.figure.specs.Counted.{BoundUnseen}
use Rattle.figure.proofs.Search.{at_head, all_finds}
use Rattle.figure.proofs.Runs.{ended_same}
use Rattle.figure.proofs.Walking.{asked_put, asked_get}
use Rattle.figure.proofs.Getting.{get_ends}
use Rattle.figure.proofs.Putting.{put_ends}
use Rattle.figure.proofs.Called.{reached_lives}
use Rattle.figure.proofs.Unlocked.{key_range}

module _ {m : Memory} {g : Ghost} {b : Map} (N : Nodes m g) (B : Book m b) (k : ℕ) (range : (1 ≤ k) × (k < MAX))
    (c d : ℕ) (hc : m.counts.nodes < c) (hd : m.counts.nodes < d) where
  gets : get c m k ≡ get d m k
  gets =
      let E = get_ends N B (asked_get k 0 range) c (omega arith) 0 0 in
      let F = get_ends N B (asked_get k 0 range) d (omega arith) 0 0 in
      by_le E.before F.before
      (λ le. let q = ended_same E F le in rw (q.1, q.2))
      (λ lt. let q = ended_same F E (omega arith) in rw (q.1, q.2))

  frees : Unlocked m → (e : ℕ) → m.counts.nodes < e → (h : ℕ) (a : Answer) → h ≤ HMAX → Free e m k h a
  frees free e he h a h5 l le _ =
      let f = all_finds N range.1 e (omega arith) HMAX head l (omega arith) (at_head N range.1 range.0) in
      free l _ (omega arith) f.spot.used

  puts : Unlocked m → (i v t draw : ℕ) → let x = put alone i c m k v t draw in let y = put alone i d m k v t draw in
      (x.memory ≡ y.memory) × (x.answer ≡ y.answer)
  unfolding put
  puts free i v t draw =
      let P = asked_put k v t draw 0 range in
      let h5 = top_at_most draw in
      let E = put_ends N B P c hc i 0 (frees free c hc (top_of draw) (put alone i c m k v t draw).answer h5) in
      let F = put_ends N B P d hd i 0 (frees free d hd (top_of draw) (put alone i d m k v t draw).answer h5) in
      by_le E.before F.before
      (λ le. let q = ended_same E F le in (q.0, q.1))
      (λ lt. let q = ended_same F E (omega arith) in (sym q.0, sym q.1))

pub bound_unseen : BoundUnseen
bound_unseen w reached c d hc hd k lawful =
    let l = (reached_lives reached).live in
    let range = key_range k lawful in
    record {
      gets = gets l.core.nodes l.core.book k range c d hc hd;
      leaves = λ free i v t draw. (puts l.core.nodes l.core.book k range c d hc hd free i v t draw).0;
      answers = λ free i v t draw. (puts l.core.nodes l.core.book k range c d hc hd free i v t draw).1;
    }
