-- The papers' number of each refusal; the number of each answer, kind and phase in a word, and what such a number means; and which
-- answers the tally counts.
use Rattle.std.specs.Prelude.{ℕ, ◌-◌, Bool, List, [], ◌∷◌, ltb, get_or}
use Rattle.model.specs.Types.{Kind, Idle, Put, Get, Scan, Phase, Walk, Read, Seek, Lock, Check, Update, Make, Link, Release, Follow, Answer, TooOld, VersionsFull, Added, KeysFull, New, Found, None, Swept, Refusal, NodeLength, VersionLength, ProcessCount, EventLimit, NoProcess, BadKey, Busy, NoCall, Spent, Corrupt, Damaged, NoKey, NoVersion, NotOpen, UnknownCommand, CutShort, BadRange, Version}
use Rattle.model.specs.Layout.{limits}

unfoldable pub number_of : Refusal → ℕ
number_of NodeLength = 1
number_of VersionLength = 2
number_of ProcessCount = 3
number_of EventLimit = 4
number_of NoProcess = 5
number_of BadKey = 6
number_of Busy = 7
number_of NoCall = 8
number_of Spent = 9
number_of Corrupt = 10
number_of Damaged = 11
number_of NoKey = 12
number_of NoVersion = 13
number_of NotOpen = 14
number_of UnknownCommand = 15
number_of CutShort = 16
-- P1: "New numbers: 17, first above last"
number_of BadRange = 17

-- "There are seven counts, one an answer", in the order of the plain ledger's answers: the number of a counted answer is the place of
-- its count. Those that have none come behind them.
unfoldable pub answer_number : Answer → ℕ
answer_number TooOld = 0
answer_number VersionsFull = 1
answer_number Added = 2
answer_number KeysFull = 3
answer_number New = 4
answer_number Found = 5
answer_number None = 6
answer_number Swept = 7

-- which answers have a place in the tally; of a sweep P1 says: "no tally counts it"
abbrev pub is_counted : Answer → Bool
is_counted a = ltb (answer_number a) limits.tally

-- What a number means: the refusals, from 1, and the answers, from 0, in this order. No other number is told.
abbrev pub refusals : List Refusal
refusals =
    NodeLength ∷ VersionLength ∷ ProcessCount ∷ EventLimit ∷ NoProcess ∷ BadKey ∷ Busy ∷ NoCall ∷ Spent ∷ Corrupt
    ∷ Damaged ∷ NoKey ∷ NoVersion ∷ NotOpen ∷ UnknownCommand ∷ CutShort ∷ BadRange ∷ []

abbrev pub refusal_of : ℕ → Refusal
refusal_of n = get_or refusals (n - 1) BadRange

abbrev pub answers : List Answer
answers = TooOld ∷ VersionsFull ∷ Added ∷ KeysFull ∷ New ∷ Found ∷ None ∷ Swept ∷ []

abbrev pub answer_of : ℕ → Answer
answer_of n = get_or answers n Swept

abbrev pub no_version : Version
no_version = record { value = 0; timestamp = 0 }

-- ---- kinds and phases, in the order of their types

abbrev pub kind_number : Kind → ℕ
kind_number Idle = 0
kind_number Put = 1
kind_number Get = 2
kind_number Scan = 3

-- What a number means. One that no kind, phase or answer has is taken for the last: whoever asks tests it first.
abbrev pub kinds : List Kind
kinds = Idle ∷ Put ∷ Get ∷ Scan ∷ []

abbrev pub kind_from : ℕ → Kind
kind_from n = get_or kinds n Scan

abbrev pub phase_number : Phase → ℕ
phase_number Walk = 0
phase_number Read = 1
phase_number Seek = 2
phase_number Lock = 3
phase_number Check = 4
phase_number Update = 5
phase_number Make = 6
phase_number Link = 7
phase_number Release = 8
phase_number Follow = 9

abbrev pub phases : List Phase
phases = Walk ∷ Read ∷ Seek ∷ Lock ∷ Check ∷ Update ∷ Make ∷ Link ∷ Release ∷ Follow ∷ []

abbrev pub phase_from : ℕ → Phase
phase_from n = get_or phases n Follow
