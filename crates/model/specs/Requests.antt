-- What a store is asked for: an opening by the fitter, a call by a process.
use Rattle.std.specs.Prelude.{ℕ}
use Rattle.model.specs.Types.{Kind, Put, Get, Scan}

-- "1 node table length; 2 reading table length; 3 stations; 4 event limit"; the lengths are in words
pub record Fitting : Type 0 where
  pub nodes : ℕ
  pub versions : ℕ
  pub processes : ℕ
  pub limit : ℕ

-- "A put has tray number, value, stamp and a 16-bit draw."
pub data Operation : Type 0 where
  put : (key value timestamp draw : ℕ) → Operation
  get : (key : ℕ) → Operation
  -- P1: "all trays from a first number to a last, in order, as a call of its own"
  scan : (first last : ℕ) → Operation

abbrev pub kind_of : Operation → Kind
kind_of (put k v t draw) = Put
kind_of (get k) = Get
kind_of (scan first last) = Scan

-- the ends that refusals 6 and 17 read: a put and a get have one key
abbrev pub first_of : Operation → ℕ
first_of (put k v t draw) = k
first_of (get k) = k
first_of (scan first last) = first

abbrev pub last_of : Operation → ℕ
last_of (put k v t draw) = k
last_of (get k) = k
last_of (scan first last) = last
