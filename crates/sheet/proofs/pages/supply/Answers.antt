-- Bytes only where they are needed.
use Rattle.std.proofs.Common.{rules, sym, ◌∙◌}
use denote.Enum.Bare.{same_true, same_false}
use Rattle.interpreter.specs.contracts.types.Needs.{the_type}
use Rattle.sheet.proofs.Running.{supplies_bytes, supplies_none}
use Rattle.sheet.proofs.pages.supply.Goals as goal

pub returns-then-eq-clause-supplies : goal.returns-then-eq-clause-supplies
returns-then-eq-clause-supplies c =
    supplies_bytes c.args.r _ _ _ (same_true the_type (search rules) _ _ (sym c.eq.ensures ∙ c.if-eq.true)) c.refill.ensures.refilled

pub returns-clause-supplies : goal.returns-clause-supplies
returns-clause-supplies c = supplies_none c.args.r _ (same_false the_type _ _ (sym c.eq.ensures ∙ c.if-eq.false))
