-- The flags that lie in words, as a list.
use Rattle.std.proofs.Common.{◌≡◌, ◌≢◌, ℕ, ◌+◌, ◌-◌, ◌*◌, ◌/◌, ◌^◌, ◌<◌, ◌≤◌, ◌&&◌, min, Bool, true, false, List, ◌++◌, length, get_or, take, drop, replicate, refl, sym, ◌∙◌, ap, inl, inr, arith, length-append, length-drop}
use Rattle.std.proofs.Math.ListN.{set, length-set}
use Rattle.std.proofs.lemmas.Bool.{cases_eq, cases_lt, false≢true}
use Rattle.std.proofs.lemmas.Grind.{common_steps}
use Rattle.std.proofs.lemmas.List.{ext_get_or, get_or-set_same, get_or-set_other, get_or-replicate, get_or-take, get_or_past, get_or_append_left, get_or-append_right, length-replicate, length-take-le}
use Rattle.std.proofs.lemmas.List.FromFn.{length-map-range_with_len, get_or-map-range_with_len}
use Rattle.vm_alloc.specs.Flags.{flags_of, IsPacked}
use Rattle.vm_alloc.specs.Words.{is_bit_set}
use Rattle.vm_alloc.proofs.WordLemmas.{no_bit, same_bits_longer, same_bits_shorter}

pub length-flags_of : (words : List ℕ) (count : ℕ) → length (flags_of words count) ≡ count
unfolding flags_of
length-flags_of words count = length-map-range_with_len (is_bit_set words) 0 count

pub flag_at : (words : List ℕ) (count k : ℕ) → k < count → get_or (flags_of words count) k false ≡ is_bit_set words k
unfolding flags_of
flag_at words count k inside = get_or-map-range_with_len (is_bit_set words) 0 count k k false inside (omega arith)

-- flags that agree bit by bit
pub same_flags : (words : List ℕ) (count : ℕ) (flags : List Bool) → length flags ≡ count → ((k : ℕ) → k < count → get_or flags k false ≡ is_bit_set words k) → flags_of words count ≡ flags
same_flags words count flags many each =
    ext_get_or false (flags_of words count) flags (length-flags_of words count ∙ sym many)
    (λ k inside. let within : k < count = omega (arith, length-flags_of words count) in flag_at words count k within ∙ sym (each k within))

-- one flag written
pub flag_set : (words new : List ℕ) (count n : ℕ) (value : Bool) → n < count → is_bit_set new n ≡ value → ((k : ℕ) → k ≢ n → is_bit_set new k ≡ is_bit_set words k)
    → flags_of new count ≡ set (flags_of words count) n value
flag_set words new count n value inside here others =
    same_flags new count (set (flags_of words count) n value) (length-set (flags_of words count) n value ∙ length-flags_of words count)
    (λ k within. elim (cases_eq k n) [
      | inl same ↦ ap (λ (j : ℕ). get_or (set (flags_of words count) n value) j false) same
          ∙ get_or-set_same (flags_of words count) n value false (omega (arith, length-flags_of words count))
          ∙ sym here
          ∙ ap (λ (j : ℕ). is_bit_set new j) (sym same)
      | inr other ↦ get_or-set_other (flags_of words count) n k value false other ∙ flag_at words count k within ∙ sym (others k other)
    ])

-- the first flags and then as before
pub first_flags_length : (first : ℕ) (flags : List Bool) → first ≤ length flags → length (replicate first true ++ drop first flags) ≡ length flags
first_flags_length first flags enough =
    omega (arith, length-append (replicate first true) (drop first flags), length-replicate first true, length-drop first flags)

pub first_flags_low : (first : ℕ) (flags : List Bool) (k : ℕ) → k < first → get_or (replicate first true ++ drop first flags) k false ≡ true
first_flags_low first flags k low = grind (arith, common_steps)

pub first_flags_high : (first : ℕ) (flags : List Bool) (k : ℕ) → first ≤ k → get_or (replicate first true ++ drop first flags) k false ≡ get_or flags k false
first_flags_high first flags k high = grind (arith, common_steps)

pub flags_first : (words new : List ℕ) (count first : ℕ) → first < count → ((k : ℕ) → k < first → is_bit_set new k ≡ true) → ((k : ℕ) → first ≤ k → is_bit_set new k ≡ is_bit_set words k)
    → flags_of new count ≡ replicate first true ++ drop first (flags_of words count)
flags_first words new count first few low high =
    let many = length-flags_of words count in
    same_flags new count (replicate first true ++ drop first (flags_of words count))
    (first_flags_length first (flags_of words count) (omega (arith, many)) ∙ many)
    (λ k within. elim (cases_lt k first) [
      | inl below ↦ first_flags_low first (flags_of words count) k below ∙ sym (low k below)
      | inr above ↦ first_flags_high first (flags_of words count) k above ∙ flag_at words count k within ∙ sym (high k above)
    ])

-- no flag at all
pub no_flag : (m count : ℕ) → flags_of (replicate m 0) count ≡ replicate count false
no_flag m count =
    same_flags (replicate m 0) count (replicate count false) (length-replicate count false)
    (λ k within. get_or-replicate count k false false within ∙ sym (no_bit m k))

-- ---- what a method of the flags asks and answers, where `flags` are those that lie in `words` and `read` are the same words

pub many_flags : (words : List ℕ) (count : ℕ) (flags : List Bool) → flags_of words count ≡ flags → length flags ≡ count
many_flags words count flags view = ap length (sym view) ∙ length-flags_of words count

pub same_many : (words : List ℕ) (count : ℕ) (flags : List Bool) (words' : List ℕ) (count' : ℕ) (flags' : List Bool) → flags_of words count ≡ flags → flags_of words' count' ≡ flags' → length flags' ≡ length flags → count ≡ count'
same_many words count flags words' count' flags' view view' same =
    sym (many_flags words count flags view) ∙ sym same ∙ many_flags words' count' flags' view'

pub word_inside : (words : List ℕ) (count : ℕ) (flags : List Bool) (n : ℕ) → flags_of words count ≡ flags → IsPacked words count → n < length flags → n / 64 < length words
word_inside words count flags n view packed inside = let many = many_flags words count flags view in omega (arith, many)

pub flag_read : (words read : List ℕ) (count : ℕ) (flags : List Bool) (n : ℕ) → flags_of words count ≡ flags → read ≡ words → n < length flags → is_bit_set read n ≡ get_or flags n false
flag_read words read count flags n view same inside =
    ap (λ (ws : List ℕ). is_bit_set ws n) same
    ∙ sym (flag_at words count n (omega (arith, many_flags words count flags view)))
    ∙ ap (λ (fs : List Bool). get_or fs n false) view

pub flag_written : (words read new : List ℕ) (count : ℕ) (flags : List Bool) (n : ℕ) (value : Bool) → flags_of words count ≡ flags → read ≡ words → n < length flags
    → is_bit_set new n ≡ value → ((k : ℕ) → k ≢ n → is_bit_set new k ≡ is_bit_set read k)
    → flags_of new count ≡ set flags n value
flag_written words read new count flags n value view same inside here others =
    flag_set words new count n value (omega (arith, many_flags words count flags view)) here (λ k other. others k other ∙ ap (λ (ws : List ℕ). is_bit_set ws k) same)
    ∙ ap (λ (fs : List Bool). set fs n value) view

pub first_written : (words read new : List ℕ) (count first : ℕ) (flags : List Bool) → flags_of words count ≡ flags → read ≡ words → first < length flags
    → ((k : ℕ) → k < first → is_bit_set new k ≡ true) → ((k : ℕ) → first ≤ k → is_bit_set new k ≡ is_bit_set read k)
    → flags_of new count ≡ replicate first true ++ drop first flags
first_written words read new count first flags view same inside low high =
    flags_first words new count first (omega (arith, many_flags words count flags view)) low (λ k above. high k above ∙ ap (λ (ws : List ℕ). is_bit_set ws k) same)
    ∙ ap (λ (fs : List Bool). replicate first true ++ drop first fs) view

pub flags_cleared : (words new : List ℕ) (count : ℕ) (flags : List Bool) → flags_of words count ≡ flags → new ≡ replicate (length words) 0 → flags_of new count ≡ replicate (length flags) false
flags_cleared words new count flags view cleared =
    ap (λ (ws : List ℕ). flags_of ws count) cleared
    ∙ no_flag (length words) count
    ∙ ap (λ (m : ℕ). replicate m false) (sym (many_flags words count flags view))

pub flags_copied : (words new : List ℕ) (count others : ℕ) (flags : List Bool) → flags_of words others ≡ flags → new ≡ words → count ≡ others → flags_of new count ≡ flags
flags_copied words new count others flags view same many =
    ap (λ (ws : List ℕ). flags_of ws count) same ∙ ap (λ (m : ℕ). flags_of words m) many ∙ view

-- flags that are set in both words, and read as such
pub flags_both : (words read others lent new : List ℕ) (count count' : ℕ) (flags flags' : List Bool) → flags_of words count ≡ flags → flags_of others count' ≡ flags' → length flags' ≡ length flags → read ≡ words → lent ≡ others
    → ((k : ℕ) → is_bit_set new k ≡ (is_bit_set read k && is_bit_set lent k)) → (k : ℕ) → get_or (flags_of new count) k false ≡ (get_or flags k false && get_or flags' k false)
flags_both words read others lent new count count' flags flags' view view' many same same' both k =
    let here = many_flags words count flags view in
    elim (cases_lt k count) [
      | inl inside ↦
          flag_at new count k inside
          ∙ both k
          ∙ ap (λ b. b && is_bit_set lent k) (flag_read words read count flags k view same (omega (arith, here)))
          ∙ ap (λ b. get_or flags k false && b) (flag_read others lent count' flags' k view' same' (omega (arith, here, many)))
      | inr past ↦
          get_or_past (flags_of new count) k false (omega (arith, past, length-flags_of new count))
          ∙ ap (λ b. b && get_or flags' k false) (sym (get_or_past flags k false (omega (arith, past, here))))
    ]

-- bits below `from` are set where its flags are
pub bits_below : (words read : List ℕ) (count from : ℕ) (flags : List Bool) → flags_of words count ≡ flags → read ≡ words
    → ((k : ℕ) → k < from → get_or flags k false ≡ true) → (k : ℕ) → k < from → is_bit_set read k ≡ true
bits_below words read count from flags view same below k low =
    elim (cases_lt k (length flags)) [
      | inl inside ↦ flag_read words read count flags k view same inside ∙ below k low
      | inr past ↦ absurd (false≢true (sym (get_or_past flags k false past) ∙ below k low))
    ]

pub flags_before : (words read : List ℕ) (count r m : ℕ) (flags : List Bool) → flags_of words count ≡ flags → read ≡ words → m ≡ min r count
    → ((k : ℕ) → k < r → is_bit_set read k ≡ true) → (k : ℕ) → k < m → get_or flags k false ≡ true
flags_before words read count r m flags view same least before k low =
    sym (flag_read words read count flags k view same (omega (arith, many_flags words count flags view))) ∙ before k (omega arith)

pub flag_found : (words read : List ℕ) (count r m : ℕ) (flags : List Bool) → flags_of words count ≡ flags → read ≡ words → m ≡ min r count → IsPacked words count
    → (r < 64 * length read → is_bit_set read r ≡ false) → m < length flags → get_or flags m false ≡ false
flag_found words read count r m flags view same least packed found inside =
    let many = many_flags words count flags view in
    let here : m ≡ r = omega (arith, many) in
    let words_alike : length read ≡ length words = ap length same in
    sym (flag_read words read count flags m view same inside)
    ∙ ap (λ (k : ℕ). is_bit_set read k) here
    ∙ found (omega (arith, many))

-- ---- the bits behind the flags stay clear

pub packed_set : (words new : List ℕ) (count : ℕ) → IsPacked words count → length new ≡ length words → ((k : ℕ) → count ≤ k → is_bit_set new k ≡ is_bit_set words k) → IsPacked new count
packed_set words new count packed many same = record {
  few = packed.few;
  fits = many ∙ packed.fits;
  clear = λ k past. same k past ∙ packed.clear k past;
}

pub packed_copied : (words new : List ℕ) (count others : ℕ) → IsPacked words others → new ≡ words → count ≡ others → IsPacked new count
packed_copied words new count others packed same many = rw (same, many) packed

-- ---- more flags, clear ones

pub packed_longer : (words new : List ℕ) (count more m : ℕ) → IsPacked words count → count ≤ more → more ≤ 2 ^ 26 → new ≡ words ++ replicate m 0 → length new ≡ (more + 63) / 64 → IsPacked new more
packed_longer words new count more m packed longer few is fits = record {
  few = few;
  fits = fits;
  clear = λ k past. ap (λ (ws : List ℕ). is_bit_set ws k) is ∙ same_bits_longer words m k ∙ packed.clear k (omega arith);
}

pub flags_longer : (words new : List ℕ) (count more m : ℕ) (flags : List Bool) → flags_of words count ≡ flags → IsPacked words count → count ≤ more → new ≡ words ++ replicate m 0
    → flags_of new more ≡ flags ++ replicate (more - length flags) false
flags_longer words new count more m flags view packed longer is =
    let many : length flags ≡ count = many_flags words count flags view in
    let rest : List Bool = replicate (more - length flags) false in
    same_flags new more (flags ++ rest) (omega (arith, length-append flags rest, length-replicate (more - length flags) false))
    (λ k within.
    let bits : is_bit_set new k ≡ is_bit_set words k = ap (λ (ws : List ℕ). is_bit_set ws k) is ∙ same_bits_longer words m k in
    elim (cases_lt k (length flags)) [
      | inl inside ↦ get_or_append_left flags rest false k inside ∙ sym (flag_read words words count flags k view refl inside) ∙ sym bits
      | inr past ↦ get_or-append_right flags rest (length flags) k false refl past ∙ get_or-replicate (more - length flags) (k - length flags) false false (omega arith) ∙ sym (bits ∙ packed.clear k (omega arith))
    ])

-- ---- fewer flags

pub packed_shorter : (words new : List ℕ) (count fewer : ℕ) → IsPacked words count → fewer ≤ count → length new ≡ (fewer + 63) / 64 → ((k : ℕ) → fewer ≤ k → is_bit_set new k ≡ false) → IsPacked new fewer
packed_shorter words new count fewer packed less fits clear = record { few = omega (arith, packed.few); fits = fits; clear = clear }

pub flags_shorter : (words read new : List ℕ) (count fewer m : ℕ) (flags : List Bool) → flags_of words count ≡ flags → fewer ≤ length flags → fewer ≤ 64 * m → read ≡ take m words
    → ((k : ℕ) → k < fewer → is_bit_set new k ≡ is_bit_set read k) → flags_of new fewer ≡ take fewer flags
flags_shorter words read new count fewer m flags view less room is before =
    same_flags new fewer (take fewer flags) (length-take-le fewer flags less)
    (λ k within.
    get_or-take fewer flags k false within
    ∙ sym (flag_read words words count flags k view refl (omega arith))
    ∙ sym (before k within ∙ ap (λ (ws : List ℕ). is_bit_set ws k) is ∙ same_bits_shorter words m k (omega arith)))

-- flags of which some were cleared
pub packed_both : (words read lent new : List ℕ) (count : ℕ) → IsPacked words count → read ≡ words → length new ≡ length read → ((k : ℕ) → is_bit_set new k ≡ (is_bit_set read k && is_bit_set lent k)) → IsPacked new count
packed_both words read lent new count packed same many both = record {
  few = packed.few;
  fits = many ∙ ap length same ∙ packed.fits;
  clear = λ k past. both k ∙ ap (λ b. b && is_bit_set lent k) (ap (λ (ws : List ℕ). is_bit_set ws k) same ∙ packed.clear k past);
}
