-- No command changes the length of a buffer or of the tally, whatever they hold: a step writes its tables word by word, and an
-- open makes tables as long as those that it is lent.
use Prim.Native.Nat.{ℕ}
use mathlib.Core.Bool.{◌||◌}
use mathlib.Core.List.{List, [], ◌∷◌}
use mathlib.Core.Path.{◌≡◌, refl, ◌∙◌}
use lib.ListN.{length, take, replicate, length-replicate}
use lib.Seq.{length_front}
use Rattle.model.specs.Layout.{node_words, version_words, top_level, fresh_nodes}
use Rattle.model.specs.Calls.{open_permit, open_by, open_of, step_of}
use Rattle.model.proofs.Tests.{if-by}
use Rattle.model.proofs.Words.{length_word}
use Rattle.buffers.specs.Session.{Session, Done, lent, table_words, opened_tally, open_on, call_on}
use Rattle.executor.specs.Perform.{opens, perform_of, performed_all}
use Rattle.transcript.specs.Types.{Command, Open, Put, Get, Step, Look, Inspect, Opening, Permit, Ok, Err}
use Rattle.transcript.specs.BySheet.{BufferLengths}
use Rattle.transcript.proofs.Steps.{step_keeps}

-- ---- an opening

pub length_fresh : (n : ℕ) → length (fresh_nodes n) ≡ n
unfolding fresh_nodes
length_fresh n = length_word (replicate n 0) 0 2 top_level ∙ length-replicate n 0

module _ (nodes versions : List ℕ) (p limit : ℕ) where
  open_by_lem : (d : Permit) → let o = open_by d nodes versions p limit in
      (length o.nodes ≡ length nodes) × (length o.versions ≡ length versions)
  unfolding open_by
  open_by_lem (Err r) = (refl, refl)
  open_by_lem (Ok _) = (length_fresh (length nodes), length-replicate (length versions) 0)

  open_long : let o = open_of nodes versions p limit in
      (length o.nodes ≡ length nodes) × (length o.versions ≡ length versions)
  unfolding open_of
  open_long = open_by_lem (open_permit nodes versions p limit)

-- ---- a command

pub record SameLengths (w w' : Session) : Type 0 where
  pub nodes : length w'.nodes ≡ length w.nodes
  pub versions : length w'.versions ≡ length w.versions
  pub tally : length w'.tally ≡ length w.tally

same : (w : Session) → SameLengths w w
same w = record { nodes = refl; versions = refl; tally = refl }

tally_long : (o : Opening) (tally : List ℕ) → length (opened_tally o tally) ≡ length tally
tally_long (Ok _) tally = length-replicate (length tally) 0
tally_long (Err r) tally = refl

call_keeps : (w : Session) (c : Command) → SameLengths w (call_on w c).session
unfolding call_on open_on
call_keeps w (Open k v p limit) =
    let n = table_words node_words k in
    let m = table_words version_words v in
    let o = open_of (take n w.nodes) (take m w.versions) p limit in
    let l = open_long (take n w.nodes) (take m w.versions) p limit in
    record {
      nodes = length_front w.nodes o.nodes n l.0;
      versions = length_front w.versions o.versions m l.1;
      tally = tally_long o.result.outcome w.tally;
    }
call_keeps w (Put i k v t draw) = record { nodes = refl; versions = refl; tally = refl }
call_keeps w (Get i k) = record { nodes = refl; versions = refl; tally = refl }
call_keeps w (Step i) =
    let o = step_of (lent w) i in
    let s = step_keeps (lent w) i in
    record {
      nodes = length_front w.nodes o.store.nodes w.state.lengths.nodes s.nodes;
      versions = length_front w.versions o.store.versions w.state.lengths.versions s.versions;
      tally = s.tally;
    }
call_keeps w (Look k back) = same w
call_keeps w Inspect = same w

perform_keeps : (w : Session) (c : Command) → SameLengths w (perform_of w c).session
unfolding perform_of
perform_keeps w c =
    if-by (λ (d : Done). SameLengths w d.session) (w.state.opened || opens c) (λ t. call_keeps w c) (λ t. same w)

-- so whatever a sheet played before, the next open finds buffers of the lent lengths
pub lengths_stay : (w : Session) (commands : List Command) → BufferLengths w → BufferLengths (performed_all w commands).session
unfolding performed_all
lengths_stay w [] l = l
lengths_stay w (c ∷ rest) l =
    let s = perform_keeps w c in
    lengths_stay (perform_of w c).session rest
    (record { nodes = s.nodes ∙ l.nodes; versions = s.versions ∙ l.versions; tally = s.tally ∙ l.tally })
