-- How the contracts name the state that a head and a kind are taken from.
use Rattle.std.specs.Prelude.{ℕ, ◌<◌, ◌≡◌, List}
use Rattle.model.specs.declared.types.State.{State}
use Rattle.model.specs.declared.types.Kind.{Kind}
use Rattle.model.specs.Layout.{limits}
use Rattle.model.specs.State.{process_at}
use Rattle.layout.specs.Head.{header_of}

-- The state has this header, and its process i a call of this kind. A number past the last process is refused before a
-- kind is looked at.
pub record Agrees (s : State) (i : ℕ) (h : List ℕ) (kind : Kind) : Type 0 where
  pub same : header_of s ≡ h
  pub found : i < limits.processes → (process_at s i).call.kind ≡ kind
