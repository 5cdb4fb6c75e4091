-- Each part is tested.
use Prim.Native.Nat.{ℕ, ◌<◌}
use mathlib.Core.Bool.{true, false}
use mathlib.Core.List.{[]}
use mathlib.Core.Path.{◌≡◌, sym, ap, ◌∙◌}
use lib.ListN.{take, drop, get_or}
use borrow.Author.Rules.{rules}
use Rattle.model.specs.Layout.{limits}
use Rattle.process.specs.ProcessWords.{sizes, known_process}
use Rattle.layout.proofs.Parts.{all_parts}
use Rattle.layout.proofs.state.all_known.Goals as goal

pub returns : goal.returns
returns c =
    let a = c.args in
    let to : c.all.result ≡ true → (k : ℕ) → k < a.n → known_process (get_or (take a.n c.processes.result.now) k []) ≡ true = search rules in
    let from : c.all.result ≡ false → (k : ℕ) × (k < a.n) × (known_process (get_or (take a.n c.processes.result.now) k []) ≡ false) = search rules in
    let behind = drop sizes.head a.words.now in
    all_parts limits.processes a.n behind c.all.result c.requires
    (λ t k l. ap (λ ps. known_process (get_or (take a.n ps) k [])) (sym c.processes.ensures) ∙ to t k l)
    (λ f. let at = from f in (at.0, at.1, ap (λ ps. known_process (get_or (take a.n ps) at.0 [])) (sym c.processes.ensures) ∙ at.2))
