-- One process as twenty-one words, and words as a process: call, cursor, effect, then the node remembered at each level.
use Rattle.std.specs.Prelude.{ℕ, Bool, ◌&&◌, List, [], ◌∷◌, ◌++◌, ltb, length, get_or, take, drop}
use Rattle.model.specs.declared.types.Call.{Call}
use Rattle.model.specs.declared.types.Cursor.{Cursor}
use Rattle.model.specs.declared.types.Effect.{Effect}
use Rattle.model.specs.declared.types.Process.{Process}
use Rattle.model.specs.Layout.{levels, word_size, low_half, high_half, joined}
use Rattle.model.specs.Numbers.{answer_number, answers, answer_of, kind_number, kinds, kind_from, phase_number, phases, phase_from}
use Rattle.process.specs.declared.types.Sizes.{Sizes}
use Rattle.process.specs.declared.types.ProcessOffsets.{ProcessOffsets}

abbrev pub sizes : Sizes
sizes = record { version = 3; head = 9; process = 21; state = 177 }

-- where each word of a process stands: its call, cursor and effect, and the node remembered at level 0, then at the others
abbrev pub process_offsets : ProcessOffsets
process_offsets = record {
  kind = 0;
  keylow = 1;
  keyhigh = 2;
  lastlow = 3;
  lasthigh = 4;
  value = 5;
  timestamp = 6;
  top = 7;
  start = 8;
  phase = 9;
  level = 10;
  pred = 11;
  made = 12;
  answer = 13;
  tick = 14;
  preds = 15;
}

-- ---- encode

abbrev pub call_words : Call → List ℕ
call_words c =
    kind_number c.kind ∷ low_half c.key ∷ high_half c.key ∷ low_half c.last ∷ high_half c.last ∷ c.value ∷ c.timestamp
    ∷ c.top ∷ c.start ∷ []

abbrev pub cursor_words : Cursor → List ℕ
cursor_words c = phase_number c.phase ∷ c.level ∷ c.pred ∷ c.made ∷ []

abbrev pub effect_words : Effect → List ℕ
effect_words e = answer_number e.answer ∷ e.tick ∷ []

abbrev pub process_words : Process → List ℕ
process_words p = call_words p.call ++ cursor_words p.cursor ++ effect_words p.effect ++ p.preds

-- ---- decode

abbrev pub process_from : List ℕ → Process
process_from w = record {
  call = record {
    kind = kind_from (get_or w process_offsets.kind 0);
    key = joined (get_or w process_offsets.keylow 0) (get_or w process_offsets.keyhigh 0);
    last = joined (get_or w process_offsets.lastlow 0) (get_or w process_offsets.lasthigh 0);
    value = get_or w process_offsets.value 0;
    timestamp = get_or w process_offsets.timestamp 0;
    top = get_or w process_offsets.top 0;
    start = get_or w process_offsets.start 0;
  };
  cursor = record {
    phase = phase_from (get_or w process_offsets.phase 0);
    level = get_or w process_offsets.level 0;
    pred = get_or w process_offsets.pred 0;
    made = get_or w process_offsets.made 0;
  };
  effect = record { answer = answer_of (get_or w process_offsets.answer 0); tick = get_or w process_offsets.tick 0 };
  preds = take levels (drop process_offsets.preds w);
}

-- ---- words that are a process

-- kind, phase and answer have a number. "All words are 32 bits.": so the low half of a key is told from the high one
abbrev pub known_process : List ℕ → Bool
known_process w =
    ltb (get_or w process_offsets.keylow 0) word_size && ltb (get_or w process_offsets.lastlow 0) word_size
    && ltb (get_or w process_offsets.kind 0) (length kinds)
    && ltb (get_or w process_offsets.phase 0) (length phases) && ltb (get_or w process_offsets.answer 0) (length answers)
