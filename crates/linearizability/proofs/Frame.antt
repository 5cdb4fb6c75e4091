-- What a step of one process leaves to another: nodes stay with their keys and are linked higher, and what the other has
-- locked is as it was. So what is known of the other process still holds.
use Prim.Native.Nat.{ℕ, zero, suc, ◌≤◌}
use mathlib.Core.List.{List}
use mathlib.Core.Path.{◌≡◌, refl, ◌∙◌}
use native.Mathlib.Omega.{arith}
use Rattle.linearizability.specs.Types.{Phase, Walk, Read, Seek, Lock, Check, Update, Make, Link, Release, Follow, Class, Inserted, OtherPut, Hit, Miss, Scanned, Effect, Process}
use Rattle.model.specs.Layout.{Memory, key, top, next, lock}
use Rattle.model.specs.Roles.{class_of}
use Rattle.linearizability.proofs.Invariant.{Ghost, In, At, Placed, Clear, Target, FoundAt, Made, Holds, Stage, StageOf, Settled, AtPhase, Fits}

-- nodes stay, with their keys, and are linked higher; those of process i have their top and are as high as they were
pub record Grown (m m' : Memory) (g g' : Ghost) (i : ℕ) : Type 0 where
  pub more : m.counts.nodes ≤ m'.counts.nodes
  pub keys : (x : ℕ) → x ≤ m.counts.nodes → key m'.nodes x ≡ key m.nodes x
  pub grow : (x : ℕ) → x ≤ m.counts.nodes → g.high x ≤ g'.high x
  pub owns : (x : ℕ) → x ≤ m.counts.nodes → g'.own x ≡ g.own x
  pub mine : (x : ℕ) → x ≤ m.counts.nodes → g.own x ≡ suc i → g'.high x ≡ g.high x
  pub tops : (x : ℕ) → x ≤ m.counts.nodes → g.own x ≡ suc i → top m'.nodes x ≡ top m.nodes x

pub record Frame (m m' : Memory) (g g' : Ghost) (i : ℕ) : Type 0 where
  pub grown : Grown m m' g g' i
  pub locks : (l x : ℕ) → In m g l x → lock m.nodes l x ≡ suc i → lock m'.nodes l x ≡ suc i
  pub links : (l x : ℕ) → In m g l x → lock m.nodes l x ≡ suc i → next m'.nodes l x ≡ next m.nodes l x

pub frame_refl : (m : Memory) (g : Ghost) (i : ℕ) → Frame m m g g i
frame_refl m g i = record {
  grown = record {
    more = omega arith;
    keys = λ x h. refl;
    grow = λ x h. omega arith;
    owns = λ x h. refl;
    mine = λ x h e. refl;
    tops = λ x h e. refl;
  };
  locks = λ l x h e. e;
  links = λ l x h e. refl;
}

module _ {m m' : Memory} {g g' : Ghost} {i : ℕ} (F : Grown m m' g g' i) where
  pub at_kept : {l p k : ℕ} → At m g l p k → At m' g' l p k
  at_kept {l} {p} {k} a =
      let e = F.keys p a.used in
      let h = F.grow p a.used in
      let n = F.more in
      record { used = omega arith; up = omega arith; low = omega arith }

  pub placed_kept : {tp : ℕ} {ps : List ℕ} {l p k : ℕ} → Placed m g tp ps l p k → Placed m' g' tp ps l p k
  placed_kept c = record { top5 = c.top5; six = c.six; spot = at_kept c.spot; memo = λ j h. at_kept (c.memo j h) }

  pub made_kept : {x k tp h : ℕ} → Made m g i x k tp h → Made m' g' i x k tp h
  made_kept {x} {k} {tp} {h} f =
      let n = F.more in
      record {
        used = omega (arith, f.used);
        pos = f.pos;
        height_is = F.mine x f.used f.mine ∙ f.height_is;
        mine = F.owns x f.used ∙ f.mine;
        key_is = F.keys x f.used ∙ f.key_is;
        top_is = F.tops x f.used f.mine ∙ f.top_is;
      }

  pub stage_kept : (e : Effect) (tp x k l : ℕ) → Stage m g i e tp x k l → Stage m' g' i e tp x k l
  stage_kept e tp x k zero c = c
  stage_kept e tp x k (suc l) c = (c.0, c.1, c.2, made_kept c.3)

  pub stage_of_kept : (pr : Process) → StageOf m g i pr → StageOf m' g' i pr
  stage_of_kept pr c = stage_kept pr.effect pr.call.top pr.cursor.made pr.call.key pr.cursor.level c

  pub settled_kept : (tp x k l : ℕ) (a : Class) → Settled m g i tp x k l a → Settled m' g' i tp x k l a
  settled_kept tp x k l Inserted c = (c.0, made_kept c.1)
  settled_kept tp x k l OtherPut c = c
  settled_kept tp x k l Hit c = c
  settled_kept tp x k l Miss c = c
  settled_kept tp x k l Scanned c = c

  pub in_kept : {l x : ℕ} → In m g l x → In m' g' l x
  in_kept {l} {x} h = (omega (arith, F.more, h.0), omega (arith, F.grow x h.0, h.1))

  pub found_kept : {l p k : ℕ} → FoundAt m l p k → FoundAt m' l p k
  found_kept {l} {p} {k} f =
      let n = F.more in
      record { low = f.low; used = omega (arith, f.used); pos = f.pos; key_is = F.keys p f.used ∙ f.key_is }

module _ {m m' : Memory} {g g' : Ghost} {i : ℕ} (F : Frame m m' g g' i) where
  pub held_kept : {l p k : ℕ} → At m g l p k → Holds m i l p → Holds m' i l p
  held_kept {l} {p} a h = F.locks l p (a.used, a.up) h

  link_kept : {l p k : ℕ} → At m g l p k → Holds m i l p → next m'.nodes l p ≡ next m.nodes l p
  link_kept {l} {p} a h = F.links l p (a.used, a.up) h

  clear_kept : {l p k : ℕ} → At m g l p k → Holds m i l p → Clear m l p k → Clear m' l p k
  clear_kept {l} {p} {k} a h c = rw (link_kept a h) λ ne.
      let d = c ne in
      let e = F.grown.keys (next m.nodes l p) d.0 in
      let n = F.grown.more in
      (omega arith, omega arith)

  target_kept : {l p k : ℕ} → At m g l p k → Holds m i l p → Target m l p k → Target m' l p k
  target_kept {l} {p} {k} a h t =
      let e = link_kept a h in
      let n = F.grown.more in
      record {
        some = rw e t.some;
        used = rw e (omega (arith, t.used));
        key_is = rw e (F.grown.keys (next m.nodes l p) t.used ∙ t.key_is);
      }

  ok_kept : (pr : Process) (ph : Phase) → AtPhase m g i pr ph → AtPhase m' g' i pr ph
  ok_kept pr Walk c = (placed_kept F.grown c.0, c.1)
  ok_kept pr Read c = (found_kept F.grown c.0, c.1)
  ok_kept pr Seek c = (placed_kept F.grown c.0, stage_of_kept F.grown pr c.1)
  ok_kept pr Lock c = (placed_kept F.grown c.0, stage_of_kept F.grown pr c.1)
  ok_kept pr Check c =
      (placed_kept F.grown c.0, stage_of_kept F.grown pr c.1, held_kept c.0.spot c.2)
  ok_kept pr Update c = (
    placed_kept F.grown c.0,
    stage_of_kept F.grown pr c.1,
    held_kept c.0.spot c.2,
    c.3,
    target_kept c.0.spot c.2 c.4,
  )
  ok_kept pr Make c = (
    placed_kept F.grown c.0,
    stage_of_kept F.grown pr c.1,
    held_kept c.0.spot c.2,
    c.3,
    clear_kept c.0.spot c.2 c.4,
  )
  ok_kept pr Link c = (
    placed_kept F.grown c.0,
    stage_of_kept F.grown pr c.1,
    held_kept c.0.spot c.2,
    c.3,
    clear_kept c.0.spot c.2 c.4,
  )
  ok_kept pr Release c = (
    placed_kept F.grown c.0,
    c.1,
    held_kept c.0.spot c.2,
    settled_kept F.grown pr.call.top pr.cursor.made pr.call.key pr.cursor.level (class_of pr.effect.answer) c.3,
  )
  ok_kept pr Follow c = (c.0, in_kept F.grown c.1, c.2)

  pub fits_kept : {pr : Process} → Fits m g i pr → Fits m' g' i pr
  fits_kept {pr} f = record {
    phase = f.phase;
    phase_is = f.phase_is;
    role = f.role;
    ok = λ n. ok_kept pr f.phase (f.ok n);
  }
