-- One text written behind another, what is left of a text to write, and the digits of a number.
use Prim.Native.Nat.{ℕ, zero, suc, ◌+◌, ◌-◌, ◌^◌, ◌/◌, ◌%◌, ◌<◌, ◌≤◌}
use mathlib.Core.Path.{◌≡◌, refl, sym, ap, ◌∙◌}
use mathlib.Core.Bool.{Bool, true, false}
use mathlib.Core.List.{List, [], ◌∷◌, ◌++◌, map, append_assoc, append-nil}
use native.Mathlib.Nat.{add-zero, add-suc, suc-add, pow-suc}
use native.Mathlib.Omega.{arith}
use lib.Dec.{ltb}
use lib.ListN.{length, set, take, drop, get_or, length-append, length-set, drop_of_length-le}
use lib.Seq.{sets, sets-eq, length-sets}
use borrow.Rule.Slice.PartMut.{put_mid, Post-is}
use borrow.Author.Tests.{lt-ltb, le-ltb, ltb-true, ltb-false}
use Rattle.std.specs.Fmt as std
use Rattle.std.proofs.lemmas.Fmt.{AppendsLastDigit, decimal_from_appends, length-decimal-le, length-decimal-le_succ}
use Rattle.std.specs.Prelude.{if◌then◌else◌}
use Rattle.printer.specs.Text.{digit, digits, decimal, line, Wrote}
use Rattle.printer.specs.Words.{Word, bytes_of, most, room_for}

sets_append : (l : List ℕ) (i : ℕ) (xs ys : List ℕ) → sets (sets l i xs) (i + length xs) ys ≡ sets l i (xs ++ ys)
sets_append l i [] ys = rw add-zero
sets_append l i (x ∷ xs) ys = rw (add-suc, ← suc-add) (sets_append (set l i x) (suc i) xs ys)

-- a text behind another
pub behind : {a b c : List ℕ} {i j k : ℕ} {xs ys : List ℕ} → Wrote a b i j xs → Wrote b c j k ys → Wrote a c i k (xs ++ ys)
behind {a} {b} {c} {i} {j} {k} {xs} {ys} p q = record {
  end = rw length-append (omega arith);
  bytes = q.bytes ∙ rw (p.bytes, p.end) (sets_append a i xs ys);
  within = q.within;
}

pub no_byte : (out : List ℕ) (start : ℕ) → start ≤ length out → Wrote out out start start []
no_byte out start h = record { end = sym (add-zero start); bytes = refl; within = h }

pub one_byte : (out : List ℕ) (start b : ℕ) → start < length out → Wrote out (set out start b) start (start + 1) (b ∷ [])
one_byte out start b h = record { end = refl; bytes = refl; within = simp length-set (omega arith) }

-- a text copied into the part of the buffer that ends at `end`
pub text_put : (out text : List ℕ) (start end : ℕ) → end ≡ start + length text → end ≤ length out
    → Wrote out (put_mid start (end - start) out text) start end text
text_put out text start end is h =
    let same : put_mid start (end - start) out text ≡ sets out start text =
    ap (λ (r : List ℕ). take start out ++ (text ++ r)) (Post-is start end out (omega arith) ∙ ap (λ (k : ℕ). drop k out) is)
    ∙ sym (append_assoc (take start out) text (drop (start + length text) out)) ∙ sym (sets-eq text out start (omega arith)) in
    record { end = is; bytes = same; within = rw (same, length-sets) h }

-- ---- words, each with the byte behind it

-- what is left of a line at its words from here on
abbrev pub line_left : List Word → List ℕ
line_left [] = []
line_left (w ∷ words) = line (map bytes_of (w ∷ words))

-- a word of them and the byte behind it, a space or the line's end
line_word : (words : List Word) (i : ℕ) (d : Word) (b : ℕ) → i < length words → (suc i < length words → b ≡ 32) → (length words ≤ suc i → b ≡ 10)
    → line_left (drop i words) ≡ (bytes_of (get_or words i d) ++ (b ∷ [])) ++ line_left (drop (suc i) words)
line_word [] i d b h space end = elim h [ ]
line_word (w ∷ []) zero d b h space end = rw (end (omega arith)) (sym (append-nil _))
line_word (w ∷ v ∷ words) zero d b h space end = rw (space (omega arith)) (sym (append_assoc (bytes_of w) (32 ∷ []) (line_left (v ∷ words))))
line_word (w ∷ words) (suc i) d b h space end = line_word words i d b (omega arith) (λ m. space (omega arith)) (λ m. end (omega arith))

room_word : (words : List Word) (i : ℕ) (d : Word) → i < length words
    → room_for (drop i words) ≡ most (get_or words i d) + 1 + room_for (drop (suc i) words)
room_word [] i d h = elim h [ ]
room_word (w ∷ words) zero d h = refl
room_word (w ∷ words) (suc i) d h = room_word words i d (omega arith)

pub word_room : (next n top : ℕ) (words : List Word) (i : ℕ) (d : Word) → i < length words → n ≤ next + most (get_or words i d)
    → next + room_for (drop i words) ≤ top → n + 1 + room_for (drop (suc i) words) ≤ top
word_room next n top words i d h few room = omega (arith, room_word words i d h)

-- What is left of a line to write: written from here on it ends the whole.
pub record Left (before out : List ℕ) (start next : ℕ) (whole rest : List ℕ) : Type 0 where
  pub alike : length out ≡ length before
  pub ends : (after : List ℕ) (k : ℕ) → Wrote out after next k rest → Wrote before after start k whole

-- before the first byte all of it is left
pub all_left : (out : List ℕ) (start : ℕ) (whole : List ℕ) → Left out out start start whole whole
all_left out start whole = record { alike = refl; ends = λ after k w. w }

module _ {before out : List ℕ} {start next : ℕ} {whole : List ℕ} where
  pub none_left : Left before out start next whole [] → next ≤ length out → Wrote before out start next whole
  none_left l h = l.ends out next (no_byte out next h)

  -- a text more is written
  pub left_on : {out' : List ℕ} {next' : ℕ} (text rest : List ℕ) → Left before out start next whole (text ++ rest) → length out' ≡ length out
      → Wrote out out' next next' text → Left before out' start next' whole rest
  left_on text rest l e w = record { alike = e ∙ l.alike; ends = λ after k v. l.ends after k (behind w v) }

pub word_written : {before out out' : List ℕ} {start next n : ℕ} (words : List Word) (i b : ℕ) (d : Word) {whole : List ℕ} → i < length words
    → (suc i < length words → b ≡ 32) → (length words ≤ suc i → b ≡ 10)
    → Left before out start next whole (line_left (drop i words))
    → Wrote out out' next n (bytes_of (get_or words i d)) → length out' ≡ length out → n < length out'
    → Left before (set out' n b) start (n + 1) whole (line_left (drop (suc i) words))
word_written {out' = out'} {n = n} words i b d h space end l w e room =
    left_on _ _ (rw (line_word words i d b h space end) at l) (simp length-set e) (behind w (one_byte out' n b room))

pub line_written : {before out : List ℕ} {start next : ℕ} (words : List Word) (i : ℕ) → 0 < length words → length words ≤ i → next ≤ length out
    → Left before out start next (line_left words) (line_left (drop i words)) → Wrote before out start next (line (map bytes_of words))
line_written [] i some h fits l = elim some [ ]
line_written (w ∷ words) i some h fits l = none_left (rw (drop_of_length-le (w ∷ words) {i = i} h) at l) fits

-- ---- digits

appends : AppendsLastDigit digits
unfolding digits
appends = record {
  one = λ k n h. (let last : n % 10 ≡ n = omega arith in simp (lt-ltb n 10 h, last));
  more = λ k n h. simp (le-ltb n 10 h);
}

-- the text that std prints
decimal_is : (n : ℕ) → n < 2 ^ 64 → decimal n ≡ std.decimal n
unfolding decimal
decimal_is n h = decimal_from_appends digits appends (suc n) n h (omega (arith, length-decimal-le_succ n h))

pub decimal_short : (n : ℕ) → n < 10 → decimal n ≡ digit n ∷ []
unfolding decimal
decimal_short n h = appends.one n n h

-- what stands in front of the last digit, where there is any
front_alike : (t : Bool) (x y : List ℕ) → (t ≡ false → x ≡ y) → (if t then [] else x) ≡ (if t then [] else y)
front_alike true x y h = refl
front_alike false x y h = h refl

-- where the digits are enough, more of them change nothing
digits_enough : (f g n : ℕ) → n < f → n < g → digits f n ≡ digits g n
unfolding digits
digits_enough zero g n h k = elim h [ ]
digits_enough (suc f) zero n h k = elim k [ ]
digits_enough (suc f) (suc g) n h k =
    ap (λ (front : List ℕ). front ++ (digit (n % 10) ∷ []))
    (front_alike (ltb n 10) (digits f (n / 10)) (digits g (n / 10)) (λ t. digits_enough f g (n / 10) (omega (arith, ltb-false n 10 t)) (omega (arith, ltb-false n 10 t))))

-- a number of two digits or more ends with its last
pub decimal_long : (n : ℕ) → 10 ≤ n → decimal n ≡ decimal (n / 10) ++ (digit (n % 10) ∷ [])
unfolding decimal digits
decimal_long n h =
    let front : digits n (n / 10) ≡ digits (suc (n / 10)) (n / 10) = digits_enough n (suc (n / 10)) (n / 10) (omega arith) (omega arith) in
    simp (le-ltb n 10 h, front)

-- a number below 10 ^ (k + 1) has at most k + 1 digits
pub digits_few : (k n : ℕ) → n < 10 ^ suc k → length (decimal n) ≤ suc k
digits_few zero n h = rw (decimal_short n h) (omega arith)
digits_few (suc k) n h =
    let few = digits_few k (n / 10) (omega (arith, pow-suc 10 (suc k))) in
    by few (ltb n 10) refl
  where
    by : length (decimal (n / 10)) ≤ suc k → (t : Bool) → ltb n 10 ≡ t → length (decimal n) ≤ suc (suc k)
    by few true e = rw (decimal_short n (ltb-true n 10 e)) (omega arith)
    by few false e = rw (decimal_long n (ltb-false n 10 e), length-append) (omega arith)

pub decimal_few : (n : ℕ) → n < 2 ^ 32 → length (decimal n) ≤ 10
decimal_few n h = rw (decimal_is n (omega arith)) (length-decimal-le 10 n (omega arith) (omega arith) (omega arith))

pub decimal_wide : (n : ℕ) → n < 2 ^ 64 → length (decimal n) ≤ 20
decimal_wide n h = rw (decimal_is n h) (length-decimal-le 20 n (omega arith) (omega arith) h)

pub short_length : (n : ℕ) → n < 10 → length (decimal n) ≡ 1
short_length n h = ap length (decimal_short n h)

pub long_length : (n : ℕ) → 10 ≤ n → length (decimal n) ≡ length (decimal (n / 10)) + 1
long_length n h = ap length (decimal_long n h) ∙ length-append (decimal (n / 10)) (digit (n % 10) ∷ [])
