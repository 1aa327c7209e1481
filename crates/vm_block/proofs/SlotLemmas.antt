-- The head and the entries of a slot.
use Rattle.std.proofs.Common.{◌≡◌, ℕ, ◌+◌, ◌-◌, ◌*◌, ◌≤◌, List, [], ◌∷◌, ◌++◌, length, take, drop, replicate, get_or, suc, Option, None, Some, codes, refl, sym, ap, ◌∙◌, arith, length-append, length-drop, append_assoc}
use Rattle.std.specs.Option.{IfSome}
use Rattle.std.proofs.lemmas.List.{take_at, drop_at, take_all, drop-drop, append-nil}
use Rattle.byteorder.specs.Endian.{little_bytes, little_number}
use Rattle.byteorder.specs.Numbers.{little_number-reads_back}
use Rattle.vm_types.specs.Name.{IsName}
use Rattle.vm_block.specs.Padding.{zeros, padded}
use Rattle.std.specs.List.{flat_map}
use Rattle.vm_block.specs.declared.slot.Kind.{Kind}
use Rattle.vm_block.specs.declared.slot.Kind.TheVariants.{Alternative, Checkpoint}
use Rattle.vm_block.proofs.Rows.{length-rows, rows_one}
use Rattle.vm_block.specs.declared.slot.Entry.{Entry}
use Rattle.vm_block.specs.declared.header.TheConstants.{FORMAT}
use Rattle.vm_block.specs.Slot.{tag_of, name_bytes, owner_bytes, entry_bytes, EntryFits, IsEntry, head_bytes, HeadFits, IsHead, IsSlot}
use Rattle.vm_block.proofs.Pieces.{then_writes, what_follows, Written, length-zeros, length-padded, zeros_are}
use borrow.Rule.Slice.PartMut.{put_mid, mid_of}

-- # The head

pub length-head : (limit n : ℕ) → length (head_bytes limit n) ≡ 128
unfolding head_bytes zeros
length-head limit n = refl

-- the numbers of a head
pub head_numbers : (bytes : List ℕ) (limit n k j : ℕ) → IsHead bytes limit n → 128 ≤ 8 + k → 128 ≤ 12 + j → (little_number 4 (take k (drop 8 bytes)) ≡ limit) × (little_number 4 (take j (drop 12 bytes)) ≡ n)
unfolding head_bytes
head_numbers bytes limit n k j head enough enough2 =
    let whole = length-head limit n in
    let front = codes "SLOT" ++ little_bytes 4 FORMAT in
    let blocks = little_bytes 4 limit in
    let entries = little_bytes 4 n in
    let size : length bytes ≡ 128 = ap length head.spelled ∙ whole in
    let second = what_follows bytes front (blocks ++ (entries ++ zeros 112)) 8 k head.spelled refl (omega (arith, size)) in
    let third = what_follows bytes (front ++ blocks) (entries ++ zeros 112) 12 j head.spelled refl (omega (arith, size)) in (
      ap (little_number 4) second ∙ little_number-reads_back 4 limit (entries ++ zeros 112) (omega (arith, head.fits.most)),
      ap (little_number 4) third ∙ little_number-reads_back 4 n (zeros 112) (omega (arith, head.fits.few)),
    )

pub head_read : (bytes : List ℕ) (limit n a b k j : ℕ) → IsHead bytes limit n → a ≡ little_number 4 (take k (drop 8 bytes)) → b ≡ little_number 4 (take j (drop 12 bytes)) → k ≡ length bytes - 8 → j ≡ length bytes - 12 → (a ≡ limit) × (b ≡ n)
head_read bytes limit n a b k j head is_a is_b far_a far_b =
    let whole : length bytes ≡ 128 = ap length head.spelled ∙ length-head limit n in
    let numbers = head_numbers bytes limit n k j head (omega arith) (omega arith) in
    (is_a ∙ numbers.0, is_b ∙ numbers.1)

pub head_fits : (limit n a b : ℕ) → HeadFits limit n → (a ≡ limit) × (b ≡ n) → HeadFits a b
head_fits limit n a b fits same = record {
  least = omega (arith, fits.least);
  most = omega (arith, fits.most);
  some = omega (arith, fits.some);
  few = omega (arith, fits.few);
}

-- a head that is written again is the same
pub head_again : (bytes again : List ℕ) (limit n a b : ℕ) → IsHead bytes limit n → (a ≡ limit) × (b ≡ n) → again ≡ head_bytes a b ++ [] → bytes ≡ again
head_again bytes again limit n a b head same is =
    head.spelled ∙ ap (λ x. head_bytes x n) (sym same.0) ∙ ap (λ x. head_bytes a x) (sym same.1) ∙ sym (append-nil (head_bytes a b)) ∙ sym is

-- # Names

-- a length and a name written one behind the other
pub name_written : (name counted held old m1 w1 : List ℕ) (k1 : ℕ) → m1 ≡ (length counted ∷ []) ++ drop 1 old → counted ≡ name → k1 ≡ length m1 - 1 → held ≡ name ++ replicate (32 - length name) 0 → length name ≤ 32 → w1 ≡ held ++ drop (length held) (mid_of 1 k1 m1) → put_mid 1 k1 m1 w1 ≡ name_bytes name ++ drop 33 old
name_written name counted held old m1 w1 k1 front is far padding short wrote =
    let first : m1 ≡ (length name ∷ []) ++ drop 1 old = front ∙ ap (λ x. (length x ∷ []) ++ drop 1 old) is in
    let pads : held ≡ padded 32 name = padding ∙ ap (λ z. name ++ z) (zeros_are (32 - length name)) in
    let many : length held ≡ 32 = ap length pads ∙ length-padded 32 name short in
    let wrote_name : w1 ≡ padded 32 name ++ drop 32 (mid_of 1 k1 m1) = wrote ∙ ap (λ n. held ++ drop n (mid_of 1 k1 m1)) many ∙ ap (λ z. z ++ drop 32 (mid_of 1 k1 m1)) pads in
    then_writes (length name ∷ []) (padded 32 name) old m1 w1 1 k1 32 33 first refl far wrote_name refl

-- no owner
pub none_written : replicate 33 0 ≡ name_bytes []
unfolding zeros
none_written = refl

-- # Entries

regroup : (t n o c b z : List ℕ) → (t ++ (n ++ (o ++ (c ++ b)))) ++ z ≡ t ++ (n ++ (o ++ (c ++ (b ++ z))))
regroup t n o c b z = simp append_assoc

regroup_left : (t n o c b z : List ℕ) → t ++ (n ++ (o ++ (c ++ (b ++ z)))) ≡ ((((t ++ n) ++ o) ++ c) ++ b) ++ z
regroup_left t n o c b z = sym (simp append_assoc)

pub length-name_bytes : (name : List ℕ) → length name ≤ 32 → length (name_bytes name) ≡ 33
length-name_bytes name short = ap suc (length-padded 32 name short)

pub length-owner_bytes : (owner : Option (List ℕ)) → IfSome owner IsName → length (owner_bytes owner) ≡ 33
length-owner_bytes None fits = length-name_bytes [] (omega arith)
length-owner_bytes (Some name) fits = length-name_bytes name fits.few

-- what an entry is spelled of, with its zero bytes apart
pub entry_whole : (e : Entry) → length (name_bytes e.name) ≡ 33 → length (owner_bytes e.owner) ≡ 33 → entry_bytes e ≡ (tag_of e.kind ∷ []) ++ (name_bytes e.name ++ (owner_bytes e.owner ++ (little_bytes 4 e.current ++ (little_bytes 4 e.base ++ zeros 53))))
unfolding entry_bytes
entry_whole e ln lo =
    let fields = name_bytes e.name ++ (owner_bytes e.owner ++ (little_bytes 4 e.current ++ little_bytes 4 e.base)) in
    let long : length (tag_of e.kind ∷ fields) ≡ 75 =
    omega (arith, ln, lo, length-append (name_bytes e.name) (owner_bytes e.owner ++ (little_bytes 4 e.current ++ little_bytes 4 e.base)), length-append (owner_bytes e.owner) (little_bytes 4 e.current ++ little_bytes 4 e.base)) in
    ap (λ k. (tag_of e.kind ∷ fields) ++ zeros (128 - k)) long
    ∙ regroup (tag_of e.kind ∷ []) (name_bytes e.name) (owner_bytes e.owner) (little_bytes 4 e.current) (little_bytes 4 e.base) (zeros 53)

-- the fields written one behind the other, and zero bytes behind them
pub entry_written : (e : Entry) (old now : List ℕ) → length ((tag_of e.kind ∷ []) ++ name_bytes e.name) ≡ 34 → length ((tag_of e.kind ∷ []) ++ name_bytes e.name ++ owner_bytes e.owner) ≡ 67 → Written old now ((((tag_of e.kind ∷ []) ++ name_bytes e.name) ++ owner_bytes e.owner) ++ little_bytes 4 e.current ++ little_bytes 4 e.base ++ replicate 53 0) 128 → now ≡ entry_bytes e ++ drop 128 old
entry_written e old now long_name long_owner w =
    let ln : length (name_bytes e.name) ≡ 33 = omega (arith, long_name) in
    let lo : length (owner_bytes e.owner) ≡ 33 = omega (arith, long_owner, ln, length-append (name_bytes e.name) (owner_bytes e.owner)) in
    w.is
    ∙ ap (λ z. (((((tag_of e.kind ∷ []) ++ name_bytes e.name) ++ owner_bytes e.owner) ++ little_bytes 4 e.current) ++ little_bytes 4 e.base) ++ z ++ drop 128 old) (zeros_are 53)
    ∙ ap (λ x. x ++ drop 128 old) (sym (entry_whole e ln lo ∙ regroup_left (tag_of e.kind ∷ []) (name_bytes e.name) (owner_bytes e.owner) (little_bytes 4 e.current) (little_bytes 4 e.base) (zeros 53)))

-- where the fields of an entry stand
pub record EntryParts (bytes : List ℕ) (e : Entry) : Type 0 where
  pub tag : get_or bytes 0 0 ≡ tag_of e.kind
  pub behind_name : List ℕ
  pub behind_owner : List ℕ
  pub name : drop 1 bytes ≡ name_bytes e.name ++ behind_name
  pub owner : drop 34 bytes ≡ owner_bytes e.owner ++ behind_owner
  pub current : little_number 4 (drop 67 bytes) ≡ e.current
  pub base : little_number 4 (drop 71 bytes) ≡ e.base

behind_next : (bytes xs ys : List ℕ) (n m : ℕ) → drop n bytes ≡ xs ++ ys → length xs ≡ m → drop (n + m) bytes ≡ ys
behind_next bytes xs ys n m e len = sym (drop-drop m n bytes) ∙ ap (drop m) e ∙ drop_at xs ys m len

pub entry_parts : (bytes : List ℕ) (e : Entry) → IsEntry bytes e → EntryParts bytes e
entry_parts bytes e entry =
    let ln = length-name_bytes e.name entry.fits.name.few in
    let lo = length-owner_bytes e.owner entry.fits.owner in
    let base = little_bytes 4 e.base ++ zeros 53 in
    let current = little_bytes 4 e.current ++ base in
    let owned = owner_bytes e.owner ++ current in
    let whole : bytes ≡ tag_of e.kind ∷ (name_bytes e.name ++ owned) = entry.spelled ∙ entry_whole e ln lo in
    let named : drop 1 bytes ≡ name_bytes e.name ++ owned = ap (drop 1) whole in
    let at_owner : drop 34 bytes ≡ owned = behind_next bytes (name_bytes e.name) owned 1 33 named ln in
    let at_current : drop 67 bytes ≡ current = behind_next bytes (owner_bytes e.owner) current 34 33 at_owner lo in
    let at_base : drop 71 bytes ≡ base = behind_next bytes (little_bytes 4 e.current) base 67 4 at_current refl in
    record {
      tag = ap (λ x. get_or x 0 0) whole;
      behind_name = owned;
      behind_owner = current;
      name = named;
      owner = at_owner;
      current = ap (little_number 4) at_current ∙ little_number-reads_back 4 e.current base entry.fits.current;
      base = ap (little_number 4) at_base ∙ little_number-reads_back 4 e.base (zeros 53) entry.fits.base;
    }

-- a part to the end of the bytes is what follows
pub rest_all : (bytes : List ℕ) (n k : ℕ) → k ≡ length bytes - n → take k (drop n bytes) ≡ drop n bytes
rest_all bytes n k is = take_all k (drop n bytes) (omega (arith, length-drop n bytes))

pub entry_is : (e f : Entry) → e.kind ≡ f.kind → e.name ≡ f.name → e.owner ≡ f.owner → e.current ≡ f.current → e.base ≡ f.base → e ≡ f
entry_is e f k n o c b = λ i. record { kind = k i; name = n i; owner = o i; current = c i; base = b i }

-- # One spelling, one meaning

-- the same bytes are one head
pub head_one : (bytes : List ℕ) (limit n most m : ℕ) → IsHead bytes limit n → IsHead bytes most m → (limit ≡ most) × (n ≡ m)
head_one bytes limit n most m a b =
    let first = head_numbers bytes limit n 120 116 a (omega arith) (omega arith) in
    let second = head_numbers bytes most m 120 116 b (omega arith) (omega arith) in
    (sym first.0 ∙ second.0, sym first.1 ∙ second.1)

tag_one : (k l : Kind) → tag_of k ≡ tag_of l → k ≡ l
tag_one Alternative Alternative e = refl
tag_one Alternative Checkpoint e = absurd (omega (arith, e))
tag_one Checkpoint Alternative e = absurd (omega (arith, e))
tag_one Checkpoint Checkpoint e = refl

-- names of one spelling are one
name_one : (name other xs ys : List ℕ) → name_bytes name ++ xs ≡ name_bytes other ++ ys → name ≡ other
name_one name other xs ys e =
    let many : length name ≡ length other = ap (λ z. get_or z 0 0) e in
    let inner : name ++ (zeros (32 - length name) ++ xs) ≡ other ++ (zeros (32 - length other) ++ ys) =
    sym (append_assoc name (zeros (32 - length name)) xs) ∙ ap (drop 1) e ∙ append_assoc other (zeros (32 - length other)) ys in
    sym (take_at name (zeros (32 - length name) ++ xs) (length name) refl) ∙ ap (take (length name)) inner ∙ take_at other (zeros (32 - length other) ++ ys) (length name) (sym many)

owner_one : (owner other : Option (List ℕ)) (xs ys : List ℕ) → IfSome owner IsName → IfSome other IsName → owner_bytes owner ++ xs ≡ owner_bytes other ++ ys → owner ≡ other
owner_one None None xs ys p q e = refl
owner_one None (Some other) xs ys p q e = let many : 0 ≡ length other = ap (λ z. get_or z 0 0) e in absurd (omega (arith, q.some))
owner_one (Some owner) None xs ys p q e = let many : length owner ≡ 0 = ap (λ z. get_or z 0 0) e in absurd (omega (arith, p.some))
owner_one (Some owner) (Some other) xs ys p q e = ap Some (name_one owner other xs ys e)

-- the same bytes are one entry
pub entry_one : (bytes : List ℕ) (e f : Entry) → IsEntry bytes e → IsEntry bytes f → e ≡ f
entry_one bytes e f a b =
    let first = entry_parts bytes e a in
    let second = entry_parts bytes f b in
    entry_is e f
    (tag_one e.kind f.kind (sym first.tag ∙ second.tag))
    (name_one e.name f.name first.behind_name second.behind_name (sym first.name ∙ second.name))
    (owner_one e.owner f.owner first.behind_owner second.behind_owner a.fits.owner b.fits.owner (sym first.owner ∙ second.owner))
    (sym first.current ∙ second.current)
    (sym first.base ∙ second.base)

pub length-entry : (e : Entry) → EntryFits e → length (entry_bytes e) ≡ 128
length-entry e fits =
    let ln = length-name_bytes e.name fits.name.few in
    let lo = length-owner_bytes e.owner fits.owner in
    ap length (entry_whole e ln lo)
    ∙ omega (arith, ln, lo, length-zeros 53, length-append (name_bytes e.name) (owner_bytes e.owner ++ (little_bytes 4 e.current ++ (little_bytes 4 e.base ++ zeros 53))), length-append (owner_bytes e.owner) (little_bytes 4 e.current ++ (little_bytes 4 e.base ++ zeros 53)))

-- entries of one spelling are one
pub entry_spelled_one : (e f : Entry) → EntryFits e → EntryFits f → entry_bytes e ≡ entry_bytes f → e ≡ f
entry_spelled_one e f p q same =
    entry_one (entry_bytes e) e f (record { spelled = refl; fits = p }) (record { spelled = same; fits = q })

-- the same blocks are one slot's entries
pub slot_one : (blocks : List (List ℕ)) (limit most : ℕ) (es fs : List Entry) → IsSlot blocks limit es → IsSlot blocks most fs → (limit ≡ most) × (es ≡ fs)
slot_one blocks limit most es fs a b =
    let n = length es in
    let m = length fs in
    let rows = flat_map entry_bytes es in
    let others = flat_map entry_bytes fs in
    let same : head_bytes limit n ++ (rows ++ a.rest) ≡ head_bytes most m ++ (others ++ b.rest) =
    sym (append_assoc (head_bytes limit n) rows a.rest) ∙ sym a.spelled ∙ b.spelled ∙ append_assoc (head_bytes most m) others b.rest in
    let heads : head_bytes limit n ≡ head_bytes most m =
    sym (take_at (head_bytes limit n) (rows ++ a.rest) 128 (length-head limit n)) ∙ ap (take 128) same ∙ take_at (head_bytes most m) (others ++ b.rest) 128 (length-head most m) in
    let behind : rows ++ a.rest ≡ others ++ b.rest =
    sym (drop_at (head_bytes limit n) (rows ++ a.rest) 128 (length-head limit n)) ∙ ap (drop 128) same ∙ drop_at (head_bytes most m) (others ++ b.rest) 128 (length-head most m) in
    let numbers = head_one (head_bytes limit n) limit n most m (record { spelled = refl; fits = a.fits.head }) (record { spelled = heads; fits = b.fits.head }) in
    let long : length rows ≡ 128 * n = length-rows entry_bytes EntryFits 128 length-entry es a.fits.each in
    let long_others : length others ≡ 128 * n = length-rows entry_bytes EntryFits 128 length-entry fs b.fits.each ∙ ap (λ k. 128 * k) (sym numbers.1) in
    let one : rows ≡ others = sym (take_at rows a.rest (128 * n) long) ∙ ap (take (128 * n)) behind ∙ take_at others b.rest (128 * n) long_others in
    (numbers.0, rows_one entry_bytes EntryFits 128 length-entry entry_spelled_one es fs a.fits.each b.fits.each numbers.1 one)
