-- Bits that lie 64 in a word, and what a write of one word does to them.
use Rattle.std.proofs.Common.{◌≡◌, ◌≢◌, ℕ, zero, suc, ◌+◌, ◌*◌, ◌-◌, ◌/◌, ◌%◌, ◌^◌, ◌<◌, ◌≤◌, ◌&&◌, max, min, true, false, eqb, List, ◌++◌, length, get_or, take, replicate, refl, sym, ◌∙◌, ap, inl, inr, arith}
use Rattle.std.specs.Int.{bit_at, bit_not, w64, trailing_ones}
use Rattle.std.specs.Prelude.{bit_and, bit_or}
use Rattle.std.proofs.Math.ListN.{set}
use Rattle.std.proofs.Math.Nat.{max-eq_right, max-zero}
use Rattle.std.proofs.lemmas.Bool.{cases_eq, cases_lt}
use Rattle.std.proofs.lemmas.List.{get_or-set_same, get_or-set_other, get_or-take, get_or-replicate, get_or_past, get_or_append_left, get_or-append_right, length-replicate}
use Rattle.std.proofs.lemmas.Nat.{one_shl}
use Rattle.std.proofs.lemmas.Nat.Bits.{bit_at-lt, bit_at_and, bit_at_or, bit_at_ones, bit_at_ones_above, bit_at_set_same, bit_at_set_other, bit_at_clear_same, bit_at_clear_other, bit_at-trailing_ones, bit_at-zero}
use Rattle.vm_alloc.specs.Words.{is_bit_set}

-- a bit of the word that was written
pub bit_there : (words : List ℕ) (i x k : ℕ) → i < length words → k / 64 ≡ i → is_bit_set (set words i x) k ≡ eqb (bit_at x (k % 64)) 1
bit_there words i x k inside at =
    ap (λ (w : ℕ). eqb (bit_at w (k % 64)) 1) (ap (λ (j : ℕ). get_or (set words i x) j 0) at ∙ get_or-set_same words i x 0 inside)

-- a bit of another word
pub bit_elsewhere : (words : List ℕ) (i x k : ℕ) → k / 64 ≢ i → is_bit_set (set words i x) k ≡ is_bit_set words k
bit_elsewhere words i x k away = ap (λ (w : ℕ). eqb (bit_at w (k % 64)) 1) (get_or-set_other words i (k / 64) x 0 away)

-- a word that keeps a bit
pub bit_kept : (words : List ℕ) (i x k : ℕ) → i < length words → (k / 64 ≡ i → bit_at x (k % 64) ≡ bit_at (get_or words i 0) (k % 64)) → is_bit_set (set words i x) k ≡ is_bit_set words k
bit_kept words i x k inside keeps =
    elim (cases_eq (k / 64) i) [
      | inl at ↦ bit_there words i x k inside at ∙ ap (λ (b : ℕ). eqb b 1) (keeps at) ∙ ap (λ (j : ℕ). eqb (bit_at (get_or words j 0) (k % 64)) 1) (sym at)
      | inr away ↦ bit_elsewhere words i x k away
    ]

-- `words[n / 64] |= 1 << (n % 64)` sets bit n
pub set_here : (words : List ℕ) (n : ℕ) → n / 64 < length words → is_bit_set (set words (n / 64) (bit_or (get_or words (n / 64) 0) (1 * 2 ^ (n % 64) % 18446744073709551616))) n ≡ true
set_here words n inside =
    bit_there words (n / 64) _ n inside refl ∙ ap (λ (b : ℕ). eqb b 1) (bit_at_set_same w64 (get_or words (n / 64) 0) (n % 64) (omega arith))

-- and no other bit
pub set_others : (words : List ℕ) (n : ℕ) → n / 64 < length words → (k : ℕ) → k ≢ n → is_bit_set (set words (n / 64) (bit_or (get_or words (n / 64) 0) (1 * 2 ^ (n % 64) % 18446744073709551616))) k ≡ is_bit_set words k
set_others words n inside k other =
    bit_kept words (n / 64) _ k inside (λ at. bit_at_set_other w64 (get_or words (n / 64) 0) (n % 64) (omega arith) (k % 64) (omega arith))

-- `words[n / 64] &= !(1 << (n % 64))` clears bit n
pub unset_here : (words : List ℕ) (n : ℕ) → n / 64 < length words → is_bit_set (set words (n / 64) (bit_and (get_or words (n / 64) 0) (bit_not w64 (1 * 2 ^ (n % 64) % 18446744073709551616)))) n ≡ false
unset_here words n inside =
    bit_there words (n / 64) _ n inside refl ∙ ap (λ (b : ℕ). eqb b 1) (bit_at_clear_same w64 (get_or words (n / 64) 0) (n % 64) (omega arith))

-- and no other bit
pub unset_others : (words : List ℕ) (n : ℕ) → n / 64 < length words → (k : ℕ) → k ≢ n → is_bit_set (set words (n / 64) (bit_and (get_or words (n / 64) 0) (bit_not w64 (1 * 2 ^ (n % 64) % 18446744073709551616)))) k ≡ is_bit_set words k
unset_others words n inside k other =
    bit_kept words (n / 64) _ k inside (λ at. bit_at_clear_other w64 (get_or words (n / 64) 0) (n % 64) (omega arith) (k % 64) (omega arith) (omega arith))

-- the bit k of `word | (1 << count) - 1`
pub low_bit : (word count k : ℕ) → count < 64 → k < count → bit_at (bit_or word (1 * 2 ^ count % 18446744073709551616 - 1)) k ≡ 1
low_bit word count k few low =
    let ones : 1 * 2 ^ count % 18446744073709551616 - 1 ≡ 2 ^ count - 1 = ap (λ (m : ℕ). m - 1) (one_shl count 64 few) in
    ap (λ (m : ℕ). bit_at (bit_or word m) k) ones
    ∙ bit_at_or word (2 ^ count - 1) k
    ∙ ap (λ (b : ℕ). max (bit_at word k) b) (bit_at_ones count k low)
    ∙ max-eq_right (omega (arith, bit_at-lt word k))

pub high_bit : (word count k : ℕ) → count < 64 → count ≤ k → bit_at (bit_or word (1 * 2 ^ count % 18446744073709551616 - 1)) k ≡ bit_at word k
high_bit word count k few high =
    let ones : 1 * 2 ^ count % 18446744073709551616 - 1 ≡ 2 ^ count - 1 = ap (λ (m : ℕ). m - 1) (one_shl count 64 few) in
    ap (λ (m : ℕ). bit_at (bit_or word m) k) ones
    ∙ bit_at_or word (2 ^ count - 1) k
    ∙ ap (λ (b : ℕ). max (bit_at word k) b) (bit_at_ones_above count k high)
    ∙ max-zero (bit_at word k)

-- `words[0] |= (1 << count) - 1` sets the first bits
pub first_here : (words : List ℕ) (count : ℕ) → 0 < length words → count < 64 → (k : ℕ) → k < count → is_bit_set (set words 0 (bit_or (get_or words 0 0) (1 * 2 ^ count % 18446744073709551616 - 1))) k ≡ true
first_here words count inside few k low =
    bit_there words 0 _ k inside (omega arith) ∙ ap (λ (b : ℕ). eqb b 1) (low_bit (get_or words 0 0) count (k % 64) few (omega arith))

-- and no other bit
pub first_others : (words : List ℕ) (count : ℕ) → 0 < length words → count < 64 → (k : ℕ) → count ≤ k → is_bit_set (set words 0 (bit_or (get_or words 0 0) (1 * 2 ^ count % 18446744073709551616 - 1))) k ≡ is_bit_set words k
first_others words count inside few k high =
    bit_kept words 0 _ k inside (λ at. high_bit (get_or words 0 0) count (k % 64) few (omega arith))

-- the bit k of `word & (1 << count) - 1`
low_bit_left : (word count k : ℕ) → count < 64 → k < count → bit_at (bit_and word (1 * 2 ^ count % 18446744073709551616 - 1)) k ≡ bit_at word k
low_bit_left word count k few low =
    let ones : 1 * 2 ^ count % 18446744073709551616 - 1 ≡ 2 ^ count - 1 = ap (λ (m : ℕ). m - 1) (one_shl count 64 few) in
    let small = bit_at-lt word k in
    ap (λ (m : ℕ). bit_at (bit_and word m) k) ones
    ∙ bit_at_and word (2 ^ count - 1) k
    ∙ ap (λ (b : ℕ). min (bit_at word k) b) (bit_at_ones count k low)
    ∙ omega (arith, small)

high_bit_cleared : (word count k : ℕ) → count < 64 → count ≤ k → bit_at (bit_and word (1 * 2 ^ count % 18446744073709551616 - 1)) k ≡ 0
high_bit_cleared word count k few high =
    let ones : 1 * 2 ^ count % 18446744073709551616 - 1 ≡ 2 ^ count - 1 = ap (λ (m : ℕ). m - 1) (one_shl count 64 few) in
    ap (λ (m : ℕ). bit_at (bit_and word m) k) ones
    ∙ bit_at_and word (2 ^ count - 1) k
    ∙ ap (λ (b : ℕ). min (bit_at word k) b) (bit_at_ones_above count k high)
    ∙ omega arith

-- no bit is set behind the words
bit_past : (words : List ℕ) (k : ℕ) → length words ≤ k / 64 → is_bit_set words k ≡ false
bit_past words k past = ap (λ (w : ℕ). eqb (bit_at w (k % 64)) 1) (get_or_past words (k / 64) 0 past) ∙ ap (λ (b : ℕ). eqb b 1) (bit_at-zero (k % 64))

-- `words[count / 64] &= (1 << (count % 64)) - 1` leaves the bits before `count`
pub cut_before : (words : List ℕ) (count : ℕ) → count / 64 < length words → (k : ℕ) → k < count
    → is_bit_set (set words (count / 64) (bit_and (get_or words (count / 64) 0) (1 * 2 ^ (count % 64) % 18446744073709551616 - 1))) k ≡ is_bit_set words k
cut_before words count inside k low =
    bit_kept words (count / 64) _ k inside (λ at. low_bit_left (get_or words (count / 64) 0) (count % 64) (k % 64) (omega arith) (omega arith))

-- and none behind, where that word is the last one
pub cut_behind : (words : List ℕ) (count : ℕ) → count / 64 < length words → length words ≤ count / 64 + 1 → (k : ℕ) → count ≤ k
    → is_bit_set (set words (count / 64) (bit_and (get_or words (count / 64) 0) (1 * 2 ^ (count % 64) % 18446744073709551616 - 1))) k ≡ false
cut_behind words count inside few k high = elim (cases_eq (k / 64) (count / 64)) [
  | inl at ↦ bit_there words (count / 64) _ k inside at ∙ ap (λ (b : ℕ). eqb b 1) (high_bit_cleared (get_or words (count / 64) 0) (count % 64) (k % 64) (omega arith) (omega arith))
  | inr away ↦ bit_elsewhere words (count / 64) _ k away ∙ bit_past words k (omega arith)
]

-- where all words are before `count`, no bit is behind
pub none_behind : (words : List ℕ) (count : ℕ) → length words ≤ count / 64 → (k : ℕ) → count ≤ k → is_bit_set words k ≡ false
none_behind words count few k high = bit_past words k (omega arith)

-- a bit of the first words
pub same_bits_shorter : (words : List ℕ) (m k : ℕ) → k < 64 * m → is_bit_set (take m words) k ≡ is_bit_set words k
same_bits_shorter words m k low = ap (λ (w : ℕ). eqb (bit_at w (k % 64)) 1) (get_or-take m words (k / 64) 0 (omega arith))

-- the word i has its lowest clear bit here
pub record IsLowestClear (words : List ℕ) (n : ℕ) : Type 0 where
  pub before : (k : ℕ) → k < n → is_bit_set words k ≡ true
  pub clear : is_bit_set words n ≡ false
  pub within : n < 64 * length words

pub bit_in : (words : List ℕ) (i j : ℕ) → j < 64 → is_bit_set words (64 * i + j) ≡ eqb (bit_at (get_or words i 0) j) 1
bit_in words i j low =
    let word : (64 * i + j) / 64 ≡ i = omega arith in
    let place : (64 * i + j) % 64 ≡ j = omega arith in
    ap (λ (w : ℕ). eqb (bit_at (get_or words w 0) ((64 * i + j) % 64)) 1) word ∙ ap (λ (p : ℕ). eqb (bit_at (get_or words i 0) p) 1) place

pub lowest_clear : (words : List ℕ) (i : ℕ) → i < length words → get_or words i 0 < 18446744073709551616 → get_or words i 0 ≢ 18446744073709551615
    → ((k : ℕ) → k < 64 * i → is_bit_set words k ≡ true)
    → IsLowestClear words (64 * i + trailing_ones w64 (get_or words i 0))
lowest_clear words i inside small not_full before =
    let place = trailing_ones w64 (get_or words i 0) in
    let found = bit_at-trailing_ones w64 (get_or words i 0) (omega arith) in
    record {
      before = λ k h. elim (cases_lt k (64 * i)) [
        | inl lower ↦ before k lower
        | inr here ↦
            let split : 64 * i + (k - 64 * i) ≡ k = omega arith in
            ap (λ (m : ℕ). is_bit_set words m) (sym split)
            ∙ bit_in words i (k - 64 * i) (omega (arith, found.0))
            ∙ ap (λ (b : ℕ). eqb b 1) (found.2 (k - 64 * i) (omega arith))
      ];
      clear = bit_in words i place found.0 ∙ ap (λ (b : ℕ). eqb b 1) found.1;
      within = omega (arith, found.0);
    }

-- a full word after full words
pub full_more : (words : List ℕ) (i : ℕ) → get_or words i 0 ≡ 18446744073709551615 → ((k : ℕ) → k < 64 * i → is_bit_set words k ≡ true) → (k : ℕ) → k < 64 * (i + 1) → is_bit_set words k ≡ true
full_more words i full before k low = elim (cases_lt k (64 * i)) [
  | inl lower ↦ before k lower
  | inr here ↦
      let split : 64 * i + (k - 64 * i) ≡ k = omega arith in
      ap (λ (m : ℕ). is_bit_set words m) (sym split)
      ∙ bit_in words i (k - 64 * i) (omega arith)
      ∙ ap (λ (w : ℕ). eqb (bit_at w (k - 64 * i)) 1) full
      ∙ ap (λ (b : ℕ). eqb b 1) (bit_at_ones 64 (k - 64 * i) (omega arith))
]

-- each word is zero, also past the end
zero_word : (m i : ℕ) → ◌≡◌ {A = ℕ} (get_or (replicate m 0) i 0) 0
zero_word m i = elim (cases_lt i m) [
  | inl inside ↦ get_or-replicate m i 0 0 inside
  | inr past ↦ get_or_past (replicate m 0) i 0 (let zeros : List ℕ = replicate m 0 in let many : length zeros ≡ m = length-replicate m 0 in omega arith)
]

-- no bit is set in words of zeros
pub no_bit : (m k : ℕ) → is_bit_set (replicate m 0) k ≡ false
no_bit m k =
    ap (λ (w : ℕ). eqb (bit_at w (k % 64)) 1) (zero_word m (k / 64)) ∙ ap (λ (b : ℕ). eqb b 1) (bit_at-zero (k % 64))

-- words of zeros behind the others change no bit
pub same_bits_longer : (words : List ℕ) (m k : ℕ) → is_bit_set (words ++ replicate m 0) k ≡ is_bit_set words k
same_bits_longer words m k =
    let zeros : List ℕ = replicate m 0 in
    let same_word : get_or (words ++ zeros) (k / 64) 0 ≡ get_or words (k / 64) 0 = elim (cases_lt (k / 64) (length words)) [
      | inl inside ↦ get_or_append_left words zeros 0 (k / 64) inside
      | inr past ↦ get_or-append_right words zeros (length words) (k / 64) 0 refl past ∙ zero_word m (k / 64 - length words) ∙ sym (get_or_past words (k / 64) 0 past)
    ] in
    ap (λ (w : ℕ). eqb (bit_at w (k % 64)) 1) same_word

-- a bit is set in both of two words
both_one : (x y : ℕ) → x < 2 → y < 2 → eqb (min x y) 1 ≡ (eqb x 1 && eqb y 1)
both_one zero zero low low' = refl
both_one zero (suc zero) low low' = refl
both_one zero (suc (suc y)) low low' = absurd (omega arith)
both_one (suc zero) zero low low' = refl
both_one (suc zero) (suc zero) low low' = refl
both_one (suc zero) (suc (suc y)) low low' = absurd (omega arith)
both_one (suc (suc x)) y low low' = absurd (omega arith)

-- `words[i] &= others[i]` leaves the bits of that word that are set in both
pub both_here : (words others : List ℕ) (i k : ℕ) → i < length words → k / 64 ≡ i
    → is_bit_set (set words i (bit_and (get_or words i 0) (get_or others i 0))) k ≡ (is_bit_set words k && is_bit_set others k)
both_here words others i k inside at =
    bit_there words i _ k inside at
    ∙ ap (λ (b : ℕ). eqb b 1) (bit_at_and (get_or words i 0) (get_or others i 0) (k % 64))
    ∙ both_one _ _ (bit_at-lt (get_or words i 0) (k % 64)) (bit_at-lt (get_or others i 0) (k % 64))
    ∙ ap (λ (j : ℕ). eqb (bit_at (get_or words j 0) (k % 64)) 1 && eqb (bit_at (get_or others j 0) (k % 64)) 1) (sym at)

-- and so from the first word on
pub both_so_far : (first words others : List ℕ) (i : ℕ) → i < length words
    → ((k : ℕ) → k < 64 * i → is_bit_set words k ≡ (is_bit_set first k && is_bit_set others k)) → ((k : ℕ) → 64 * i ≤ k → is_bit_set words k ≡ is_bit_set first k)
    → (k : ℕ) → k < 64 * (i + 1) → is_bit_set (set words i (bit_and (get_or words i 0) (get_or others i 0))) k ≡ (is_bit_set first k && is_bit_set others k)
both_so_far first words others i inside before behind k low = elim (cases_lt k (64 * i)) [
  | inl lower ↦ bit_elsewhere words i _ k (λ at. omega (arith, at)) ∙ before k lower
  | inr here ↦ both_here words others i k inside (omega arith) ∙ ap (λ b. b && is_bit_set others k) (behind k here)
]

pub behind_kept : (first words : List ℕ) (i x : ℕ) → ((k : ℕ) → 64 * i ≤ k → is_bit_set words k ≡ is_bit_set first k) → (k : ℕ) → 64 * (i + 1) ≤ k → is_bit_set (set words i x) k ≡ is_bit_set first k
behind_kept first words i x behind k high = bit_elsewhere words i x k (λ at. omega (arith, at)) ∙ behind k (omega arith)
