-- The number of steps of a call that is ran alone, as a count over the figure's run.
use Rattle.std.specs.Prelude.{ℕ, zero, suc, ◌+◌, ◌*◌, leb, ltb}
use Rattle.std.specs.Prelude.{if◌then◌else◌}
use Rattle.model.specs.Layout.{Memory, key, next}
use Rattle.model.proofs.Counting.{count}
use Rattle.model.specs.Roles.{class_of}
use Rattle.figure.specs.Types.{Answer, Class, Inserted, OtherPut, Hit, Miss, Scanned}
use Rattle.figure.specs.Figure.{HMAX, head, key_of, find}

-- the hops of `find`: how often it calls itself
unfoldable pub hops : (bound : ℕ) → Memory → (pred k lvl : ℕ) → ℕ
hops zero m pred k lvl = 0
hops (suc bound) m pred k lvl =
    let succ = next m.nodes lvl pred in
    let further = suc (hops bound m succ k lvl) in
    if leb k (key_of m succ) then 0 else further

-- Those of the finds at level lvl and at every level below, each from where the one above it stopped. The `find_all` of a get
-- makes them; that of a put makes those down to the level h of its draw, and its `insert_all` those below.
unfoldable pub hops_down : (bound : ℕ) → Memory → (pred k lvl : ℕ) → ℕ
hops_down bound m pred k zero = hops bound m pred k 0
hops_down bound m pred k (suc l) =
    hops bound m pred k (suc l) + hops_down bound m (find bound m pred k (suc l)).pred k l

-- Each hop is a step, and so is the end of each level.
unfoldable pub search_steps : (bound : ℕ) → Memory → (k : ℕ) → ℕ
search_steps bound m k = hops_down bound m head k HMAX + (HMAX + 1)

-- the steps after the search
abbrev pub steps_in : Class → (h : ℕ) → ℕ
steps_in Miss h = 0
steps_in Hit h = 1  -- read
steps_in OtherPut h = 5  -- seek, lock, check, update or make, release
steps_in Inserted h = 5 + 5 * h  -- and at each level above the bottom seek, lock, check, link, release
steps_in Scanned h = 0  -- no put or get has it

unfoldable pub steps_after : Answer → (h : ℕ) → ℕ
steps_after a h = steps_in (class_of a) h

unfoldable pub steps_of : (bound : ℕ) → Memory → (k : ℕ) → Answer → (h : ℕ) → ℕ
steps_of bound m k a h = search_steps bound m k + steps_after a h

-- the nodes with a smaller key
unfoldable pub smaller : Memory → (k : ℕ) → ℕ
smaller m k = count (λ x. ltb (key m.nodes x) k) m.counts.nodes
