-- Pieces of a block, written one behind the other and read again.
use Rattle.std.proofs.Common.{◌≡◌, ℕ, zero, suc, ◌+◌, ◌-◌, ◌*◌, ◌/◌, ◌%◌, ◌^◌, ◌<◌, ◌≤◌, List, [], ◌∷◌, ◌++◌, length, take, drop, replicate, set, get_or, bit_or, ◌↔◌, Bool, true, false, inl, inr, refl, sym, ap, ◌∙◌, arith, length-append, length-drop, append_assoc}
use Rattle.std.specs.Str.{bytes_eq}
use Rattle.std.proofs.lemmas.Slice.Eq.{bytes_eq-Decides}
use Rattle.std.specs.Int.{byte_at, bytes_low_first}
use Rattle.std.proofs.lemmas.List.{append-nil, take_at, drop_at, take_all, drop_all, drop-drop, drop-replicate, length-replicate, replicate-append-replicate, replicate_more, drop_more, take_more, same_from_push, take-append-drop, take-take, get_or-take, get_or-drop, get_or_past, length-take, length-take-le}
use Rattle.std.proofs.lemmas.Bool.{cases_lt, false≢true}
use Rattle.std.proofs.lemmas.Nat.{le_or_l, le_or_r}
use Rattle.std.specs.Int.Bits.{or_zero_l}
use Rattle.std.proofs.Math.Nat.{div-one, div-div-eq-div-mul, pow-suc}
use Rattle.std.proofs.Math.Seq.{take-add}
use Rattle.byteorder.specs.Endian.{little_from, little_number, little_bytes}
use Rattle.byteorder.specs.Numbers.{little_number-reads_back}
use Rattle.vm_block.specs.Padding.{zeros, padded}
use borrow.Rule.Slice.PartMut.{put_mid, mid_of}

-- # Zero bytes

pub length-zeros : (n : ℕ) → length (zeros n) ≡ n
unfolding zeros
length-zeros n = length-replicate n 0

pub zeros_are : (n : ℕ) → replicate n 0 ≡ zeros n
unfolding zeros
zeros_are n = refl

pub length-padded : (n : ℕ) (bytes : List ℕ) → length bytes ≤ n → length (padded n bytes) ≡ n
length-padded n bytes h = omega (arith, length-append bytes (zeros (n - length bytes)), length-zeros (n - length bytes))

-- the front of an array of zero bytes taken off
pub drop-zeros : (k n : ℕ) → drop k (replicate n 0) ≡ zeros (n - k)
unfolding zeros
drop-zeros k n = drop-replicate k n 0

pub zeros_more : (n : ℕ) → zeros n ++ 0 ∷ [] ≡ zeros (n + 1)
unfolding zeros
zeros_more n = replicate_more n 0

-- one more byte is zero exactly where the bits that were gathered stay zero
pub zeros_gathered : (xs : List ℕ) (i bits : ℕ) → i < length xs → (bits ≡ 0) ↔ (take i xs ≡ zeros i) → (bit_or bits (get_or xs i 0) ≡ 0) ↔ (take (i + 1) xs ≡ zeros (i + 1))
zeros_gathered xs i bits lt h =
    let x = get_or xs i 0 in
    let more : take (i + 1) xs ≡ take i xs ++ x ∷ [] = take_more xs i 0 lt in (
      (λ e. let none : bits ≡ 0 = omega (arith, le_or_l bits x) in
          let zero_byte : x ≡ 0 = omega (arith, le_or_r bits x) in
          more ∙ ap (λ ys. ys ++ x ∷ []) (h.0 none) ∙ ap (λ y. zeros i ++ y ∷ []) zero_byte ∙ zeros_more i),
      (λ e. let both : (take i xs ≡ zeros i) × (x ≡ 0) = same_from_push (take i xs) (zeros i) x 0 (sym more ∙ e ∙ sym (zeros_more i)) in
          ap (λ y. bit_or bits y) both.1 ∙ ap (λ y. bit_or y 0) (h.1 both.0) ∙ or_zero_l 0),
    )

-- that what follows is zero, said of the part that was looked at
pub zero_behind : (bytes : List ℕ) (end k : ℕ) → k ≡ length bytes - end → (take k (drop end bytes) ≡ zeros (length (take k (drop end bytes)))) ↔ (drop end bytes ≡ zeros (length bytes - end))
zero_behind bytes end k is =
    let all : take k (drop end bytes) ≡ drop end bytes = take_all k (drop end bytes) (omega (arith, length-drop end bytes)) in
    let many : length (take k (drop end bytes)) ≡ length bytes - end = ap length all ∙ length-drop end bytes in
    (λ e. sym all ∙ e ∙ ap zeros many, λ e. all ∙ e ∙ ap zeros (sym many))

-- what a test for a front says
pub begins_with : (bytes head : List ℕ) (r : Bool) → r ≡ bytes_eq head (take (length head) bytes) → (r ≡ true → take (length head) bytes ≡ head) × (take (length head) bytes ≡ head → r ≡ true)
begins_with bytes head r is =
    let d = bytes_eq-Decides head (take (length head) bytes) in
    (λ t. sym (d.0 (sym is ∙ t)), λ e. is ∙ d.1 (sym e))

-- bytes that a test told apart are not the same
pub told_apart : (xs ys : List ℕ) (r : Bool) → r ≡ bytes_eq xs ys → r ≡ false → xs ≡ ys → ⊥
told_apart xs ys r is apart e = false≢true (sym apart ∙ is ∙ (bytes_eq-Decides xs ys).1 e)

-- a byte put before zero bytes
pub set-zeros : (n x : ℕ) → set (zeros (suc n)) 0 x ≡ x ∷ zeros n
unfolding zeros
set-zeros n x = refl

-- # Writing

-- what stands behind the first n bytes
pub what_follows : (bytes xs ys : List ℕ) (n k : ℕ) → bytes ≡ xs ++ ys → length xs ≡ n → length bytes ≤ n + k → take k (drop n bytes) ≡ ys
what_follows bytes xs ys n k e len enough =
    let behind : drop n bytes ≡ ys = ap (drop n) e ∙ drop_at xs ys n len in
    take_all k (drop n bytes) (omega (arith, length-drop n bytes)) ∙ behind

-- the second of two writes, at the place where the first one ends
pub then_written : (xs ys mid new : List ℕ) (n k : ℕ) → mid ≡ xs ++ ys → length xs ≡ n → k ≡ length mid - n → put_mid n k mid new ≡ xs ++ new
then_written xs ys mid new n k e len is =
    let front : take n mid ≡ xs = ap (take n) e ∙ take_at xs ys n len in
    let past : drop k (drop n mid) ≡ [] = drop_all k (drop n mid) (omega (arith, length-drop n mid)) in
    ap (λ x. x ++ (new ++ drop k (drop n mid))) front ∙ ap (λ x. xs ++ (new ++ x)) past ∙ ap (λ x. xs ++ x) (append-nil new)

-- the same where what was there behind the writes stays
pub then_writes : (xs ys old mid new : List ℕ) (n k m t : ℕ) → mid ≡ xs ++ drop n old → length xs ≡ n → k ≡ length mid - n → new ≡ ys ++ drop m (mid_of n k mid) → t ≡ n + m → put_mid n k mid new ≡ (xs ++ ys) ++ drop t old
then_writes xs ys old mid new n k m t e len is wrote far =
    let behind : mid_of n k mid ≡ drop n old = what_follows mid xs (drop n old) n k e len (omega arith) in
    then_written xs (drop n old) mid new n k e len is
    ∙ ap (λ x. xs ++ x) (wrote ∙ ap (λ x. ys ++ drop m x) behind ∙ ap (λ x. ys ++ x) (drop-drop m n old ∙ ap (λ i. drop i old) (sym far)))
    ∙ sym (append_assoc xs ys (drop t old))

-- a write that ends inside of what was there, of which the rest stays
pub then_inside : (xs ys old mid new : List ℕ) (n k t : ℕ) → mid ≡ xs ++ drop n old → length xs ≡ n → new ≡ ys → t ≡ n + k → put_mid n k mid new ≡ (xs ++ ys) ++ drop t old
then_inside xs ys old mid new n k t e len wrote far =
    let front : take n mid ≡ xs = ap (take n) e ∙ take_at xs (drop n old) n len in
    let behind : drop k (drop n mid) ≡ drop t old = ap (λ x. drop k (drop n x)) e ∙ ap (drop k) (drop_at xs (drop n old) n len) ∙ drop-drop k n old ∙ ap (λ i. drop i old) (sym far) in
    ap (λ x. x ++ (new ++ drop k (drop n mid))) front
    ∙ ap (λ x. xs ++ (x ++ drop k (drop n mid))) wrote
    ∙ ap (λ x. xs ++ (ys ++ x)) behind
    ∙ sym (append_assoc xs ys (drop t old))

-- zero bytes behind what was written
pub then_zeros : (xs old mid new : List ℕ) (n k total : ℕ) → mid ≡ xs ++ drop n old → length xs ≡ n → length old ≡ total → n ≤ total → k ≡ length mid - n → new ≡ zeros (length (mid_of n k mid)) → put_mid n k mid new ≡ padded total xs
then_zeros xs old mid new n k total e len whole within is wrote =
    let behind : mid_of n k mid ≡ drop n old = what_follows mid xs (drop n old) n k e len (omega arith) in
    let many : length (mid_of n k mid) ≡ total - length xs = ap length behind ∙ length-drop n old ∙ omega arith in
    then_written xs (drop n old) mid new n k e len is ∙ ap (λ x. xs ++ x) (wrote ∙ ap zeros many)

-- how much was written
pub length_written : (xs old new : List ℕ) (n : ℕ) → new ≡ xs ++ drop n old → length new ≡ length old → n ≤ length old → length xs ≡ n
length_written xs old new n e same room = omega (arith, ap length e, length-append xs (drop n old), length-drop n old)

-- so much was written at the front, and what was there behind it stays
pub record Written (old now xs : List ℕ) (n : ℕ) : Type 0 where
  pub is : now ≡ xs ++ drop n old
  pub long : length xs ≡ n

-- one more write, where the last one ended
pub written_on : {old mid xs : List ℕ} {n : ℕ} (ys new : List ℕ) (k m : ℕ) → Written old mid xs n → n + m ≤ length old → k ≡ length mid - n → new ≡ ys ++ drop m (mid_of n k mid) → length new ≡ length (mid_of n k mid) → Written old (put_mid n k mid new) (xs ++ ys) (n + m)
written_on {old} {mid} {xs} {n} ys new k m w room far wrote same =
    let behind : mid_of n k mid ≡ drop n old = what_follows mid xs (drop n old) n k w.is w.long (omega arith) in
    let long : length ys ≡ m = length_written ys (mid_of n k mid) new m wrote same (omega (arith, ap length behind, length-drop n old)) in
    record {
      is = then_writes xs ys old mid new n k m (n + m) w.is w.long far wrote refl;
      long = length-append xs ys ∙ ap (λ a. a + length ys) w.long ∙ ap (λ b. n + b) long;
    }

-- a head, a body behind it, and zero bytes behind both
pub block_written : (head body old m1 w1 w2 : List ℕ) (h n k1 k2 : ℕ) → length head ≡ h → h + n ≤ length old → m1 ≡ head ++ drop h old → k1 ≡ length m1 - h → w1 ≡ body ++ drop n (mid_of h k1 m1) → length w1 ≡ length (mid_of h k1 m1) → k2 ≡ length (put_mid h k1 m1 w1) - (h + n) → w2 ≡ zeros (length (mid_of (h + n) k2 (put_mid h k1 m1 w1))) → put_mid (h + n) k2 (put_mid h k1 m1 w1) w2 ≡ padded (length old) (head ++ body)
block_written head body old m1 w1 w2 h n k1 k2 lh room front far1 wrote same far2 cleared =
    let behind : mid_of h k1 m1 ≡ drop h old = what_follows m1 head (drop h old) h k1 front lh (omega arith) in
    let inside : n ≤ length (mid_of h k1 m1) = omega (arith, ap length behind, length-drop h old) in
    let lb : length body ≡ n = length_written body (mid_of h k1 m1) w1 n wrote same inside in
    let both : put_mid h k1 m1 w1 ≡ (head ++ body) ++ drop (h + n) old = then_writes head body old m1 w1 h k1 n (h + n) front lh far1 wrote refl in
    then_zeros (head ++ body) old (put_mid h k1 m1 w1) w2 (h + n) k2 (length old) both (omega (arith, length-append head body)) refl room far2 cleared

-- # Numbers

-- a byte of a number, by its place
byte_at-pow : (k x : ℕ) → byte_at k x ≡ x / 256 ^ k % 256
byte_at-pow zero x = ap (λ (y : ℕ). y % 256) (sym (div-one x))
byte_at-pow (suc k) x = refl

byte_at-next : (j a y : ℕ) → a < 256 → byte_at (suc j) (a + 256 * y) ≡ byte_at j y
byte_at-next j a y h =
    let x = a + 256 * y in
    let shift : x / 256 ^ suc j ≡ x / 256 / 256 ^ j = ap (λ (p : ℕ). x / p) (pow-suc 256 j ∙ omega arith) ∙ sym (div-div-eq-div-mul x 256 (256 ^ j)) in
    let low : x / 256 ≡ y = omega arith in
    byte_at-pow (suc j) x ∙ ap (λ (p : ℕ). p % 256) (shift ∙ ap (λ (p : ℕ). p / 256 ^ j) low) ∙ sym (byte_at-pow j y)

bytes_low_first-next : (j n a y : ℕ) → a < 256 → bytes_low_first (suc j) n (a + 256 * y) ≡ bytes_low_first j n y
bytes_low_first-next j zero a y h = refl
bytes_low_first-next j (suc n) a y h =
    ap (λ (b : ℕ). b ∷ bytes_low_first (suc (suc j)) n (a + 256 * y)) (byte_at-next j a y h)
    ∙ ap (λ (bs : List ℕ). byte_at j y ∷ bs) (bytes_low_first-next (suc j) n a y h)

-- the bytes of the number that bytes spell, from place i on, are those bytes
spelled_from : (i n : ℕ) (xs : List ℕ) → ((k : ℕ) → get_or xs k 0 < 256) → i + n ≤ length xs → bytes_low_first 0 n (little_from i n xs) ≡ take n (drop i xs)
spelled_from i zero xs small room = refl
spelled_from i (suc n) xs small room =
    let a = get_or xs i 0 in
    let y = little_from (suc i) n xs in
    let lt : a < 256 = small i in
    let first : byte_at 0 (a + 256 * y) ≡ a = omega arith in
    let more : drop i xs ≡ a ∷ drop (i + 1) xs = drop_more xs i 0 (omega arith) in
    let next : suc i ≡ i + 1 = omega arith in
    let rest : bytes_low_first 1 n (a + 256 * y) ≡ take n (drop (i + 1) xs) =
    bytes_low_first-next 0 n a y lt ∙ spelled_from (suc i) n xs small (omega arith) ∙ ap (λ (k : ℕ). take n (drop k xs)) next in
    ap (λ (b : ℕ). b ∷ bytes_low_first 1 n (a + 256 * y)) first ∙ ap (λ (bs : List ℕ). a ∷ bs) rest ∙ ap (take (suc n)) (sym more)

-- a number that was read is spelled by the bytes that it was read from
pub spelled_number : (n : ℕ) (xs : List ℕ) → ((k : ℕ) → get_or xs k 0 < 256) → n ≤ length xs → take n xs ≡ little_bytes n (little_number n xs)
spelled_number n xs small room =
    let within : 0 + n ≤ length xs = omega arith in
    sym (spelled_from 0 n xs small within)

-- bytes of a part of bytes
small_part : (i k : ℕ) (xs : List ℕ) → ((j : ℕ) → get_or xs j 0 < 256) → (j : ℕ) → get_or (take k (drop i xs)) j 0 < 256
small_part i k xs small j =
    elim (cases_lt j k) [
      | inl lt ↦ omega (arith, get_or-take k (drop i xs) j 0 lt, get_or-drop i xs j 0, small (i + j))
      | inr le ↦ omega (arith, get_or_past (take k (drop i xs)) j 0 (omega (arith, length-take k (drop i xs))))
    ]

-- the same of a number that was read at place i
pub spelled_at : (n i k : ℕ) (xs : List ℕ) → ((j : ℕ) → get_or xs j 0 < 256) → i + n ≤ length xs → n ≤ k → take n (drop i xs) ≡ little_bytes n (little_number n (take k (drop i xs)))
spelled_at n i k xs small room le =
    let part = take k (drop i xs) in
    sym (take-take n k (drop i xs) le)
    ∙ spelled_number n part (small_part i k xs small) (omega (arith, length-take k (drop i xs), length-drop i xs))

-- numbers of one spelling are one
pub number_one : (n x y : ℕ) (xs ys : List ℕ) → x < 256 ^ n → y < 256 ^ n → little_bytes n x ++ xs ≡ little_bytes n y ++ ys → x ≡ y
number_one n x y xs ys hx hy e =
    sym (little_number-reads_back n x xs hx) ∙ ap (little_number n) e ∙ little_number-reads_back n y ys hy

-- # A head, a body and zero bytes

-- bytes of so many, with this head and this body, and zero bytes behind them
pub laid : (bytes head body : List ℕ) (total h n : ℕ) → length bytes ≡ total → take h bytes ≡ head → length head ≡ h → take n (drop h bytes) ≡ body → length body ≡ n → drop (h + n) bytes ≡ zeros (length (drop (h + n) bytes)) → bytes ≡ padded total (head ++ body)
laid bytes head body total h n whole front lh middle ln back =
    let many : length (drop (h + n) bytes) ≡ total - length (head ++ body) = omega (arith, length-drop (h + n) bytes, length-append head body) in
    sym (take-append-drop (h + n) bytes)
    ∙ ap (λ x. x ++ drop (h + n) bytes) (take-add h n bytes ∙ ap (λ x. x ++ take n (drop h bytes)) front ∙ ap (λ x. head ++ x) middle)
    ∙ ap (λ x. (head ++ body) ++ x) (back ∙ ap zeros many)

pub record Laid (bytes head body : List ℕ) (h n rest : ℕ) : Type 0 where
  pub front : take h bytes ≡ head
  pub behind : drop h bytes ≡ body ++ zeros rest
  pub back : drop (h + n) bytes ≡ zeros rest

-- the parts of such bytes
pub parts_laid : (bytes head body : List ℕ) (total h n : ℕ) → bytes ≡ padded total (head ++ body) → length head ≡ h → length body ≡ n → Laid bytes head body h n (total - (h + n))
parts_laid bytes head body total h n e lh ln =
    let rest = total - (h + n) in
    let many : total - length (head ++ body) ≡ rest = omega (arith, length-append head body) in
    let whole : bytes ≡ head ++ (body ++ zeros rest) = e ∙ ap (λ k. (head ++ body) ++ zeros k) many ∙ append_assoc head body (zeros rest) in
    let behind : drop h bytes ≡ body ++ zeros rest = ap (drop h) whole ∙ drop_at head (body ++ zeros rest) h lh in
    record {
      front = ap (take h) whole ∙ take_at head (body ++ zeros rest) h lh;
      behind = behind;
      back = sym (drop-drop n h bytes) ∙ ap (drop n) behind ∙ drop_at body (zeros rest) n ln;
    }
