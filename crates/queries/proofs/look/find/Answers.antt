-- The node found is the first with the key, and where none is found, none has it. At place j of the range lies j, and the node is the one after it.
use mathlib.Core.Path.{ap, ◌∙◌}
use Rattle.std.proofs.Common.{rules, ◌≡◌, ◌≤◌, ◌<◌, ◌+◌, ◌-◌, ℕ, arith, Some, []}
use Rattle.std.specs.Option.{option_map}
use Rattle.std.proofs.lemmas.Grind.{common_steps}
use Rattle.std.proofs.iter.runs.Sources.{ranges, range_listed}
use Rattle.model.specs.Layout.{key}
use Rattle.queries.proofs.LookTurns.{found_is}
use Rattle.queries.proofs.look.find.Goals as goal

pub returns : goal.returns
returns c =
    let a = c.args in
    let p = c.find.ensures.runs.0 in
    let l = range_listed p p.seen in
    let at : (j : ℕ) → j < p.len → option_map (λ y. y) (p.at (j - l.0)) ≡ Some j =
    λ j high. (l.5 [] j 0 (search rules) (search rules)).1 in
    let next : (j : ℕ) → 1 ≤ j → key a.nodes.now j ≡ a.key → key a.nodes.now (j - 1 + 1) ≡ a.key =
    λ j low same. (let n : j - 1 + 1 ≡ j = omega arith in ap (key a.nodes.now) n ∙ same) in
    found_is a.nodes.now a.key a.used c.map.result
    (λ e j low high same. let here = next j low same in grind (arith, ranges, common_steps, at (j - 1) (search (rules, ranges))))
    (λ i e. search (rules, ranges))
    λ i e j low high same. let here = next j low same in grind (arith, ranges, common_steps, at (j - 1) (search (rules, ranges)))
