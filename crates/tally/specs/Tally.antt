-- The tally's seven counts in a struct, and the one that an answer makes grow.
use Rattle.std.specs.Prelude.{ℕ, ◌+◌, ltb}
use Rattle.model.specs.declared.types.Answer.{Answer}
use Rattle.model.specs.declared.types.Answer.TheVariants.{TooOld, VersionsFull, Added, KeysFull, New, Found, None, Swept}
use Rattle.std.specs.Prelude.{if◌then◌else◌}
use Rattle.model.specs.Layout.{limits}
use Rattle.tally.specs.declared.types.Tally.{Tally}

-- "grows by one [..], and a count at 4,294,967,295 stays"
unfoldable pub more_of : ℕ → ℕ
more_of n = if ltb n limits.count then n + 1 else n

abbrev pub tally_of : (tooOld versionsFull added keysFull new found none : ℕ) → Tally
tally_of a b c d e f g = record {
  too_old = a;
  versions_full = b;
  added = c;
  keys_full = d;
  new = e;
  found = f;
  none = g;
}

-- "the one count of that answer grows": the other six are as they were. Of a sweep P1 says: "no tally counts it"
unfoldable pub grown_tally : Tally → Answer → Tally
grown_tally t TooOld = tally_of (more_of t.too_old) t.versions_full t.added t.keys_full t.new t.found t.none
grown_tally t VersionsFull = tally_of t.too_old (more_of t.versions_full) t.added t.keys_full t.new t.found t.none
grown_tally t Added = tally_of t.too_old t.versions_full (more_of t.added) t.keys_full t.new t.found t.none
grown_tally t KeysFull = tally_of t.too_old t.versions_full t.added (more_of t.keys_full) t.new t.found t.none
grown_tally t New = tally_of t.too_old t.versions_full t.added t.keys_full (more_of t.new) t.found t.none
grown_tally t Found = tally_of t.too_old t.versions_full t.added t.keys_full t.new (more_of t.found) t.none
grown_tally t None = tally_of t.too_old t.versions_full t.added t.keys_full t.new t.found (more_of t.none)
grown_tally t Swept = t
