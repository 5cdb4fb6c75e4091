-- One level of the skip list as a set of nodes with a successor function: putting a node behind its predecessor keeps it so.
use Prim.Native.Nat.{ℕ, ◌≤◌, ◌<◌}
use mathlib.Core.Path.{◌≡◌, ap, ◌∙◌}
use mathlib.Core.Logic.{◌≢◌}
use native.Mathlib.Omega.{arith}
use Rattle.model.proofs.Tests.{by_eq, by_le}

-- `In` the nodes of the level. From each, the link is the end, or leads to the nearest greater key.
pub record Level (In : ℕ → Type 0) (key next : ℕ → ℕ) : Type 0 where
  pub step : (x : ℕ) → In x → next x ≢ 0 → In (next x) × (key x < key (next x))
  pub gap : (x z : ℕ) → In x → In z → key x < key z → (next x ≢ 0) × (key (next x) ≤ key z)

-- a node whose link is the end or past k, and whose key is below k: no node of the level has k
pub absent : {In : ℕ → Type 0} {key next : ℕ → ℕ} → Level In key next → (p k : ℕ) → In p → key p < k
    → (next p ≢ 0 → k < key (next p)) → (z : ℕ) → In z → key z ≢ k
absent L p k hp low clear z hz e =
    let g = L.gap p z hp hz (omega arith) in
    let c = clear g.0 in
    omega arith

-- the same set with the same keys and links
pub kept : {In In' : ℕ → Type 0} {key key' next next' : ℕ → ℕ} → Level In key next
    → ((x : ℕ) → In' x → In x) → ((x : ℕ) → In x → In' x)
    → ((x : ℕ) → In x → key' x ≡ key x) → ((x : ℕ) → In x → next' x ≡ next x) → Level In' key' next'
kept {In} {In'} {key} {key'} {next} {next'} L down up keys links = record { step = st; gap = gp }
  where
    st : (x : ℕ) → In' x → next' x ≢ 0 → In' (next' x) × (key' x < key' (next' x))
    st x hx ne =
        let e = links x (down x hx) in
        let s = L.step x (down x hx) (λ z. ne (e ∙ z)) in
        let kx = keys x (down x hx) in
        let ky = keys (next x) s.0 in
        rw e (up (next x) s.0, omega arith)

    gp : (x z : ℕ) → In' x → In' z → key' x < key' z → (next' x ≢ 0) × (key' (next' x) ≤ key' z)
    gp x z hx hz lt =
        let e = links x (down x hx) in
        let kx = keys x (down x hx) in
        let kz = keys z (down z hz) in
        let g = L.gap x z (down x hx) (down z hz) (omega arith) in
        let s = L.step x (down x hx) g.0 in
        let ky = keys (next x) s.0 in
        rw e (g.0, omega arith)

-- node y with key k is put behind p
pub record Insert (In In' : ℕ → Type 0) (key key' next next' : ℕ → ℕ) (p y : ℕ) : Type 0 where
  pub here : In p
  pub pos : y ≢ 0
  pub low : key p < key' y
  pub clear : next p ≢ 0 → key' y < key (next p)
  pub up : (x : ℕ) → In x → In' x
  pub new : In' y
  pub out : (x : ℕ) → In x → x ≢ y
  pub down : (x : ℕ) → In' x → x ≢ y → In x
  pub keys : (x : ℕ) → In x → key' x ≡ key x
  pub back : next' p ≡ y
  pub front : next' y ≡ next p
  pub others : (x : ℕ) → In x → x ≢ p → next' x ≡ next x
  pub inj : (x : ℕ) → In x → key x ≡ key p → x ≡ p

module _ {In In' : ℕ → Type 0} {key key' next next' : ℕ → ℕ} {p y : ℕ} (L : Level In key next)
    (I : Insert In In' key key' next next' p y) where
  step_new : next' y ≢ 0 → In' (next' y) × (key' y < key' (next' y))
  step_new ne =
      let e = I.front in
      let n0 : next p ≢ 0 = λ z. ne (e ∙ z) in
      let s = L.step p I.here n0 in
      let c = I.clear n0 in
      let k = I.keys (next p) s.0 in
      rw e (I.up (next p) s.0, omega arith)

  step_p : In' (next' p) × (key' p < key' (next' p))
  step_p =
      let k = I.keys p I.here in
      let l = I.low in
      rw I.back (I.new, omega arith)

  step_old : (x : ℕ) → In x → x ≢ p → next' x ≢ 0 → In' (next' x) × (key' x < key' (next' x))
  step_old x hx np ne =
      let e = I.others x hx np in
      let s = L.step x hx (λ z. ne (e ∙ z)) in
      let kx = I.keys x hx in
      let ky = I.keys (next x) s.0 in
      rw e (I.up (next x) s.0, omega arith)

  gap_new : (z : ℕ) → In z → key' y < key' z → (next' y ≢ 0) × (key' (next' y) ≤ key' z)
  gap_new z hz lt =
      let l = I.low in
      let kz = I.keys z hz in
      let g = L.gap p z I.here hz (omega arith) in
      let s = L.step p I.here g.0 in
      let kn = I.keys (next p) s.0 in
      rw I.front (g.0, omega arith)

  gap_p : (z : ℕ) → In z → key' p < key' z → (next' p ≢ 0) × (key' (next' p) ≤ key' z)
  gap_p z hz lt =
      let kp = I.keys p I.here in
      let kz = I.keys z hz in
      let g = L.gap p z I.here hz (omega arith) in
      let c = I.clear g.0 in
      rw I.back (I.pos, omega arith)

  gap_p_new : (next' p ≢ 0) × (key' (next' p) ≤ key' y)
  gap_p_new = rw I.back (I.pos, omega arith)

  gap_old : (x z : ℕ) → In x → x ≢ p → In z → key' x < key' z → (next' x ≢ 0) × (key' (next' x) ≤ key' z)
  gap_old x z hx np hz lt =
      let kx = I.keys x hx in
      let kz = I.keys z hz in
      let g = L.gap x z hx hz (omega arith) in
      let s = L.step x hx g.0 in
      let kn = I.keys (next x) s.0 in
      rw (I.others x hx np) (g.0, omega arith)

  gap_old_new : (x : ℕ) → In x → x ≢ p → key' x < key' y → (next' x ≢ 0) × (key' (next' x) ≤ key' y)
  gap_old_new x hx np lt = by_le (key p) (key x) above below
    where
      below : key x < key p → (next' x ≢ 0) × (key' (next' x) ≤ key' y)
      below h =
          let g = L.gap x p hx I.here h in
          let s = L.step x hx g.0 in
          let kn = I.keys (next x) s.0 in
          let l = I.low in
          rw (I.others x hx np) (g.0, omega arith)

      above : key p ≤ key x → (next' x ≢ 0) × (key' (next' x) ≤ key' y)
      above h =
          let kx = I.keys x hx in
          let ne : key x ≢ key p = λ e. np (I.inj x hx e) in
          let g = L.gap p x I.here hx (omega arith) in
          let c = I.clear g.0 in
          absurd (omega arith)

  pub inserted : Level In' key' next'
  inserted = record { step = st; gap = gp }
    where
      st_old : (x : ℕ) → In x → next' x ≢ 0 → In' (next' x) × (key' x < key' (next' x))
      st_old x hx ne = by_eq x p (λ e. rw e step_p) (λ np. step_old x hx np ne)

      st : (x : ℕ) → In' x → next' x ≢ 0 → In' (next' x) × (key' x < key' (next' x))
      st x hx ne = by_eq x y
          (λ e. rw e (step_new (λ z. ne (ap next' e ∙ z))))
          (λ ny. st_old x (I.down x hx ny) ne)

      gp_old : (x z : ℕ) → In x → In' z → key' x < key' z → (next' x ≢ 0) × (key' (next' x) ≤ key' z)
      gp_old x z hx hz lt = by_eq x p
          (λ e. by_eq z y
          (λ ez. rw (e, ez) gap_p_new)
          (λ nz. rw e (gap_p z (I.down z hz nz) (rw e at lt))))
          (λ np. by_eq z y
          (λ ez. rw ez (gap_old_new x hx np (rw ez at lt)))
          (λ nz. gap_old x z hx np (I.down z hz nz) lt))

      gp : (x z : ℕ) → In' x → In' z → key' x < key' z → (next' x ≢ 0) × (key' (next' x) ≤ key' z)
      gp x z hx hz lt = by_eq x y
          (λ e. by_eq z y
          (λ ez. absurd (omega (arith, ap key' e, ap key' ez)))
          (λ nz. rw e (gap_new z (I.down z hz nz) (rw e at lt))))
          (λ ny. gp_old x z (I.down x hx ny) hz lt)
