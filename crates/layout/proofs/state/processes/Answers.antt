-- As many parts as there are processes.
use Prim.Native.Nat.{◌-◌, ◌/◌}
use mathlib.Core.Path.{◌≡◌, ap, ◌∙◌}
use native.Mathlib.Omega.{arith}
use lib.ListN.{length, take, drop, length-drop}
use lib.Seq.{take_all}
use borrow.Author.Rules.{rules}
use Rattle.std.specs.Simd.{first_chunks}
use Rattle.process.specs.ProcessWords.{sizes}
use Rattle.layout.proofs.state.processes.Goals as goal

pub returns : goal.returns
returns c =
    let w = c.args.words.now in
    let long : length (drop sizes.head w) ≡ 168 = length-drop sizes.head w ∙ ap (λ n. n - sizes.head) c.told-words in
    let whole : take 168 (drop sizes.head w) ≡ drop sizes.head w = take_all 168 (drop sizes.head w) (omega (arith, long)) in
    let same : c.unwrap.result.now ≡ c.as_chunks.result.0.now = search rules in
    same ∙ c.as_chunks.ensures.front ∙ ap (λ v. first_chunks sizes.process (length v / sizes.process) v) whole
    ∙ ap (λ n. first_chunks sizes.process (n / sizes.process) (drop sizes.head w)) long
