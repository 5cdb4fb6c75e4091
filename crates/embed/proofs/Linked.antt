-- Demand 3 of what C links: what each call tells means its outcome, so the calls are those of the store in lent words.
use Rattle.std.specs.Prelude.{Ok, Err, Option, Some}
use Rattle.model.specs.Types.{Permit, Opening, Starting, Stepping, Looking, Inspecting, Status}
use Rattle.model.specs.declared.types.Progress.{Progress}
use Prim.Native.Nat.{ℕ}
use mathlib.Core.Bool.{Bool, true, false}
use mathlib.Core.List.{List}
use mathlib.Core.Path.{◌≡◌, refl, ap, subst, ◌∙◌, fun_ext}
use borrow.Author.Tests.{ne_eqb}
use Rattle.model.specs.declared.types.Kind.{Kind}
use Rattle.model.specs.declared.types.Kind.TheVariants.{Idle, Put, Get, Scan}
use Rattle.model.specs.declared.types.Process.{Process}
use Rattle.model.specs.declared.types.Refusal.{Refusal}
use Rattle.model.specs.declared.types.Refusal.TheVariants.{Corrupt}
use Rattle.std.specs.Prelude.{if◌then◌else◌}
use Rattle.model.specs.Numbers.{number_of}
use Rattle.model.specs.State.{process_at}
use Rattle.model.specs.Calls.{status_permit, standing, status_by, status_of}
use Rattle.model.specs.Requests.{Operation}
use Rattle.model.specs.System.{Opens, refused, opened, After, view_of}
use Rattle.model.specs.ByValue.{opens_by}
use Rattle.model.specs.Linearizability.{Linearizable}
use Rattle.model.proofs.Laws.{refusal_at, numbered, answer_at}
use Rattle.model.proofs.Words.{joined_halves}
use Rattle.linearizability.proofs.Simulated.{Same, SameOpening, Simulates, simulated}
use Rattle.layout.specs.StateWords.{state_from, is_state_at}
use Rattle.process.proofs.RoundTrip.{kind_from_lem}
use Rattle.lent.specs.Calls.{OpenIn, StartIn, StepIn, inspect_in, status_in}
use Rattle.lent.specs.Lent.{Lent, Lending, fresh_lent, with_words, stepped_lent, lent_words}
use Rattle.lent.proofs.Lent as lent
use Rattle.replies.specs.Told.{open_told, start_told, step_told, look_told, inspect_told, status_told}
use Rattle.embed.specs.Calls.{open_reply, tray_open, start_reply, tray_start, step_reply, tray_step, tray_look, tray_inspect, tray_standing}
use Rattle.embed.specs.Linked.{by_number, open_meant, start_meant, step_meant, look_meant, inspect_meant, status_meant}
use Rattle.embed.specs.Linked.{open_read, start_read, step_read, linked, NumbersTell}

-- ---- what is told means the outcome that is told

refusal_meant : {O : Type 0} (f : Refusal → O) (r : Refusal) (accepted : O) → by_number (number_of r) accepted f ≡ f r
refusal_meant f r accepted = simp (ne_eqb (number_of r) 0 (numbered r), refusal_at r)

open_meant_lem : (o : Opening) → open_meant (open_told o) ≡ o
unfolding open_meant open_told
open_meant_lem (Err r) = refusal_meant Err r _
open_meant_lem (Ok _) = refl

start_meant_lem : (o : Starting) → start_meant (start_told o) ≡ o
unfolding start_meant start_told
start_meant_lem (Err r) = refusal_meant Err r _
start_meant_lem (Ok t) = refl

step_meant_lem : (o : Stepping) → step_meant (step_told o) ≡ o
unfolding step_meant step_told
step_meant_lem (Err r) = refusal_meant Err r _
step_meant_lem (Ok (Progress.Moved t)) = refl
step_meant_lem (Ok (Progress.Waited t)) = refl
step_meant_lem (Ok (Progress.Shown t x)) = simp (joined_halves x.key)
step_meant_lem (Ok (Progress.Finished f)) = simp ((kind_from_lem f.kind).0, answer_at f.answer)

look_meant_lem : (o : Looking) → look_meant (look_told o) ≡ o
unfolding look_meant look_told
look_meant_lem (Err r) = refusal_meant Err r _
look_meant_lem (Ok v) = refl

inspect_meant_lem : (o : Inspecting) → inspect_meant (inspect_told o) ≡ o
unfolding inspect_meant inspect_told
inspect_meant_lem (Err r) = refusal_meant Err r _
inspect_meant_lem (Ok Option.None) = refl
inspect_meant_lem (Ok (Some f)) = refl

-- A running call of kind idle would be told in the words of an idle process: no status is one.
abbrev MeantAs : Status → Type 0
MeantAs o = status_meant (status_told o) ≡ o

status_refused : (r : Refusal) → MeantAs (Err r)
unfolding status_meant status_told
status_refused r = refusal_meant Err r _

standing_meant : (k : Kind) (p : Process) → MeantAs (standing k p)
unfolding status_meant status_told standing
standing_meant Idle p = refl
standing_meant Put p = refl
standing_meant Get p = refl
standing_meant Scan p = refl

status_by_lem : (d : Permit) (p : Process) → MeantAs (status_by d p)
unfolding status_by
status_by_lem (Err r) p = status_refused r
status_by_lem (Ok _) p = standing_meant p.call.kind p

status_meant_lem : (w : List ℕ) (i : ℕ) → MeantAs (status_in w i)
unfolding status_in status_of
status_meant_lem w i = go (is_state_at w i)
  where
    go : (b : Bool) → MeantAs (if b then status_of (state_from w) i else Err Corrupt)
    go true = status_by_lem (status_permit (state_from w) i) (process_at (state_from w) i)
    go false = status_refused Corrupt

-- ---- and beside the words that the call leaves

open_read_lem : (o : OpenIn) → open_read (open_reply o) ≡ o
unfolding open_reply
open_read_lem o = simp (open_meant_lem o.outcome)

start_read_lem : (o : StartIn) → start_read (start_reply o) ≡ o
unfolding start_reply
start_read_lem o = simp (start_meant_lem o.outcome)

step_read_lem : (o : StepIn) → step_read (step_reply o) ≡ o
unfolding step_reply
step_read_lem o = simp (step_meant_lem o.outcome)

-- ---- side by side, on the same words

fresh_same : (l : Lending) → linked.fresh l ≡ lent_words.fresh l
unfolding tray_open
fresh_same l = ap (λ (o : OpenIn). opens_by o.outcome (fresh_lent o)) (open_read_lem _)

start_same : (w : Lent) (i : ℕ) (op : Operation) → linked.start w i op ≡ lent_words.start w i op
unfolding tray_start
start_same w i op = ap (λ (o : StartIn). record { outcome = o.outcome; store = with_words w o.words }) (start_read_lem _)

step_same : (w : Lent) (i : ℕ) → linked.step w i ≡ lent_words.step w i
unfolding tray_step
step_same w i = ap (λ (o : StepIn). record { outcome = o.outcome; store = stepped_lent o }) (step_read_lem _)

look_same : (w : Lent) (k back : ℕ) → linked.look w k back ≡ lent_words.look w k back
unfolding tray_look
look_same w k back = look_meant_lem _

view_same : (w : Lent) → view_of linked w ≡ view_of lent_words w
unfolding tray_standing tray_inspect
view_same w = simp (fun_ext (status_meant_lem w.words), inspect_meant_lem (inspect_in w.words w.nodes w.versions))

abbrev Equal : Lent → Lent → Type 0
Equal w x = w ≡ x

opens_same : (a b : Opens Lent) → a ≡ b → SameOpening Equal a b
opens_same a b e = subst (λ (c : Opens Lent). SameOpening Equal a c) e (itself a)
  where
    itself : (a : Opens Lent) → SameOpening Equal a a
    itself (refused r) = refl
    itself (opened w) = refl

same : {O : Type 0} {a b : After O Lent} → a ≡ b → Same Equal a b
same e = (ap (λ r. r.outcome) e, ap (λ r. r.store) e)

pub as_lent_words : Simulates linked lent_words (λ l. l) Equal
as_lent_words = record {
  asks = (lent.linearizable).asks;
  fits = λ l. refl;
  opens = λ l. opens_same _ _ (fresh_same l);
  starts = λ w x q i op. same (start_same w i op ∙ ap (λ (v : Lent). lent_words.start v i op) q);
  steps = λ w x q i. same (step_same w i ∙ ap (λ (v : Lent). lent_words.step v i) q);
  looks = λ w x q k back. look_same w k back ∙ ap (λ (v : Lent). lent_words.look v k back) q;
  shows = λ w x q. view_same w ∙ ap (λ (v : Lent). view_of lent_words v) q;
}

-- ---- and the numbers are those of the outcome

pub numbers_tell : NumbersTell
unfolding tray_open open_reply tray_start start_reply tray_step step_reply tray_look tray_inspect tray_standing
numbers_tell = record {
  opening = λ w nodes versions processes limit. ap open_told (open_meant_lem _);
  start = λ w nodes versions i op. ap start_told (start_meant_lem _);
  step = λ w nodes versions tally i. ap step_told (step_meant_lem _);
  look = λ w nodes versions k back. ap look_told (look_meant_lem _);
  inspect = λ w nodes versions. ap inspect_told (inspect_meant_lem _);
  standing = λ w i. ap status_told (status_meant_lem w i);
}

-- Demand 3 of what C links.
pub linearizable : Linearizable linked
linearizable = simulated linked lent_words (λ l. l) Equal as_lent_words lent.linearizable
