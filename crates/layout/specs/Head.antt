-- The head of a state as words: the layout's own number, then the header, which is what the refusals read of a state.
use Rattle.std.specs.Prelude.{ℕ, ◌+◌, Bool, true, false, List, [], ◌∷◌}
use Rattle.model.specs.declared.types.State.{State}
use Rattle.layout.specs.declared.head.HeaderOffsets.{HeaderOffsets}
use Rattle.layout.specs.declared.head.HeadOffsets.{HeadOffsets}

abbrev pub bit : Bool → ℕ
bit true = 1
bit false = 0

abbrev pub header_words : ℕ
header_words = 8

abbrev pub header_offsets : HeaderOffsets
header_offsets = record {
  opened = 0;
  processes = 1;
  limit = 2;
  events = 3;
  nodelength = 4;
  versionlength = 5;
  nodes = 6;
  versions = 7;
}

abbrev pub header_of : State → List ℕ
header_of s =
    bit s.opened ∷ s.processes ∷ s.limit ∷ s.events ∷ s.lengths.nodes ∷ s.lengths.versions
    ∷ s.counts.nodes ∷ s.counts.versions ∷ []

abbrev pub head_offsets : HeadOffsets
head_offsets = record { version = 0; header = 1 }

-- where word f of the header stands in the head
abbrev pub head_at : ℕ → ℕ
head_at f = head_offsets.header + f
