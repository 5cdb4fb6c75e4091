-- What a store is to those who use it: document 01's calls over a carrier, of which they know nothing. Demand 3 is stated of
-- any system: of the store by value (`ByValue`), of the one in lent words that C links, and of what a sheet plays.
use Rattle.std.specs.Prelude.{ℕ, List}
use Rattle.model.specs.Types.{Refusal, Counts, Starting, Stepping, Looking, Inspecting, Status}
use Rattle.model.specs.Requests.{Fitting, Operation}

-- what an opening gives: a refusal, or a fresh store
pub data Opens (C : Type 0) : Type 0 where
  refused : Refusal → Opens C
  opened : C → Opens C

-- what a call answers and leaves
pub record After (O C : Type 0) : Type 0 where
  pub outcome : O
  pub store : C

pub record System : Type 1 where
  pub Carrier : Type 0
  -- what an opening is lent and asked for, and the numbers that its refusals read
  pub Setup : Type 0
  pub fitting : Setup → Fitting
  -- a fresh store with a tally of zeroes
  pub fresh : Setup → Opens Carrier
  pub start : Carrier → (process : ℕ) → Operation → After Starting Carrier
  pub step : Carrier → (process : ℕ) → After Stepping Carrier
  -- these change nothing
  pub look : Carrier → (key back : ℕ) → Looking
  pub status : Carrier → (process : ℕ) → Status
  pub inspect : Carrier → Inspecting
  pub tally : Carrier → List ℕ
  -- "both counts in the state"; "the count of events in the state"
  pub counts : Carrier → Counts
  pub events : Carrier → ℕ

-- what can be asked when a list is done: the standing of each station, an inspection, the tally and the counts
pub record View : Type 0 where
  pub status : (process : ℕ) → Status
  pub inspected : Inspecting
  pub tally : List ℕ
  pub counts : Counts
  pub events : ℕ

abbrev pub view_of : (S : System) → S.Carrier → View
view_of S w = record {
  status = S.status w;
  inspected = S.inspect w;
  tally = S.tally w;
  counts = S.counts w;
  events = S.events w;
}
