-- Rows of pieces of one length, one behind the other.
use Rattle.std.proofs.Common.{◌≡◌, ℕ, zero, suc, ◌+◌, ◌-◌, ◌*◌, ◌<◌, ◌≤◌, List, [], ◌∷◌, ◌++◌, length, take, drop, get_or, refl, sym, ap, ◌∙◌, subst, arith, length-append, length-drop, length-take-le, take-append-drop, append_assoc}
use Rattle.std.specs.List.{AllByRecursion, flat_map}
use Rattle.std.proofs.lemmas.List.{take_at, drop_at, drop-drop, take-take, take-append-le, take_more, flat_map_more}
use Rattle.std.proofs.lemmas.Grind.{flat_map-append}
use Rattle.std.proofs.Math.Nat.{mul-le-mul_left}
use Rattle.std.proofs.Math.Seq.{paste, take-add}
use Rattle.vm_block.proofs.EachLemmas.{each_front, each_back}
use Rattle.vm_block.proofs.Pieces.{then_inside, then_writes}
use borrow.Rule.Slice.PartMut.{put_mid, mid_of}

pub all_push : {X : Type 0} (P : X → Type 0) (xs : List X) (x : X) → AllByRecursion P xs → P x → AllByRecursion P (xs ++ x ∷ [])
all_push P [] x all one = (one, tt)
all_push P (y ∷ ys) x all one = (all.0, all_push P ys x all.1 one)

-- one more piece written behind those before it
pub rows_written : {X : Type 0} (spelled : X → List ℕ) (size : ℕ) (xs : List X) (i : ℕ) (x : X) (old mid new : List ℕ) (k : ℕ) → i < length xs → x ≡ get_or xs i x → mid ≡ flat_map spelled (take i xs) ++ drop (size * i) old → size * length xs ≤ length old → length mid ≡ length old → k ≡ length mid - size * i → new ≡ spelled x ++ drop size (mid_of (size * i) k mid) → put_mid (size * i) k mid new ≡ flat_map spelled (take (i + 1) xs) ++ drop (size * (i + 1)) old
rows_written spelled size xs i x old mid new k lt is e room same far wrote =
    let ys = flat_map spelled (take i xs) in
    let inside : size * i ≤ size * length xs = mul-le-mul_left size (omega arith) in
    let len : length ys ≡ size * i =
    omega (arith, ap length e, length-append ys (drop (size * i) old), length-drop (size * i) old) in
    let more : ys ++ spelled x ≡ flat_map spelled (take (i + 1) xs) =
    flat_map_more spelled [] (take i xs) x ∙ ap (flat_map spelled) (ap (λ z. take i xs ++ z ∷ []) is ∙ sym (take_more xs i x lt)) in
    then_writes ys (spelled x) old mid new (size * i) k size (size * (i + 1)) e len far wrote (omega arith)
    ∙ ap (λ z. z ++ drop (size * (i + 1)) old) more

-- one more piece read behind those before it
pub rows_read : {X : Type 0} (spelled : X → List ℕ) (size : ℕ) (xs : List X) (i : ℕ) (x : X) (bytes : List ℕ) (k : ℕ) → take (size * i) bytes ≡ flat_map spelled xs → k ≡ size * i + size - size * i → take k (drop (size * i) bytes) ≡ spelled x → take (size * (i + 1)) bytes ≡ flat_map spelled (xs ++ x ∷ [])
rows_read spelled size xs i x bytes k before is here =
    let next : size * (i + 1) ≡ size * i + size = omega arith in
    let many : size ≡ k = omega arith in
    ap (λ n. take n bytes) next ∙ take-add (size * i) size bytes
    ∙ ap (λ z. z ++ take size (drop (size * i) bytes)) before
    ∙ ap (λ z. flat_map spelled xs ++ z) (ap (λ n. take n (drop (size * i) bytes)) many ∙ here)
    ∙ flat_map_more spelled [] xs x

module _ {X : Type 0} (spelled : X → List ℕ) (P : X → Type 0) (size : ℕ) (length-spelled : (x : X) → P x → length (spelled x) ≡ size) where
  pub length-rows : (xs : List X) → AllByRecursion P xs → length (flat_map spelled xs) ≡ size * length xs
  length-rows [] all = omega arith
  length-rows (x ∷ xs) all =
      omega (arith, length-append (spelled x) (flat_map spelled xs), length-spelled x all.0, length-rows xs all.1)

  -- the piece at a place
  pub record Found (bytes : List ℕ) (i : ℕ) : Type 0 where
    pub here : X
    pub fits : P here
    pub spells : (k : ℕ) → k ≡ size * i + size - size * i → take k (drop (size * i) bytes) ≡ spelled here

  pub found_at : (xs : List X) (i : ℕ) (bytes rest : List ℕ) → AllByRecursion P xs → i < length xs → bytes ≡ flat_map spelled xs ++ rest → Found bytes i
  found_at [] i bytes rest all lt e = absurd (omega arith)
  found_at (x ∷ xs) zero bytes rest all lt e =
      let whole : bytes ≡ spelled x ++ (flat_map spelled xs ++ rest) = e ∙ append_assoc (spelled x) (flat_map spelled xs) rest in
      let none : size * 0 ≡ 0 = omega arith in
      record {
        here = x;
        fits = all.0;
        spells = λ k is. let many : k ≡ size = omega arith in ap (λ n. take n (drop (size * 0) bytes)) many ∙ ap (λ n. take size (drop n bytes)) none ∙ ap (take size) whole ∙ take_at (spelled x) (flat_map spelled xs ++ rest) size (length-spelled x all.0);
      }
  found_at (x ∷ xs) (suc i) bytes rest all lt e =
      let whole : bytes ≡ spelled x ++ (flat_map spelled xs ++ rest) = e ∙ append_assoc (spelled x) (flat_map spelled xs) rest in
      let behind : drop size bytes ≡ flat_map spelled xs ++ rest = ap (drop size) whole ∙ drop_at (spelled x) (flat_map spelled xs ++ rest) size (length-spelled x all.0) in
      let later : Found (drop size bytes) i = found_at xs i (drop size bytes) rest all.1 (omega arith) behind in
      let place : size * suc i ≡ size + size * i = omega arith in
      record {
        here = later.here;
        fits = later.fits;
        spells = λ k is. ap (λ n. take k (drop n bytes)) place ∙ ap (take k) (sym (drop-drop (size * i) size bytes)) ∙ later.spells k (omega arith);
      }

  -- the piece at a place is that of the element there
  pub piece_at : (xs : List X) (i : ℕ) (d : X) (bytes rest : List ℕ) → AllByRecursion P xs → i < length xs → bytes ≡ flat_map spelled xs ++ rest → (take size (drop (size * i) bytes) ≡ spelled (get_or xs i d)) × P (get_or xs i d)
  piece_at [] i d bytes rest all lt e = absurd (omega arith)
  piece_at (x ∷ xs) zero d bytes rest all lt e =
      let whole : bytes ≡ spelled x ++ (flat_map spelled xs ++ rest) = e ∙ append_assoc (spelled x) (flat_map spelled xs) rest in
      let none : size * 0 ≡ 0 = omega arith in
      (ap (λ n. take size (drop n bytes)) none ∙ ap (take size) whole ∙ take_at (spelled x) (flat_map spelled xs ++ rest) size (length-spelled x all.0), all.0)
  piece_at (x ∷ xs) (suc i) d bytes rest all lt e =
      let whole : bytes ≡ spelled x ++ (flat_map spelled xs ++ rest) = e ∙ append_assoc (spelled x) (flat_map spelled xs) rest in
      let behind : drop size bytes ≡ flat_map spelled xs ++ rest = ap (drop size) whole ∙ drop_at (spelled x) (flat_map spelled xs ++ rest) size (length-spelled x all.0) in
      let later = piece_at xs i d (drop size bytes) rest all.1 (omega arith) behind in
      let place : size * suc i ≡ size + size * i = omega arith in
      (ap (λ n. take size (drop n bytes)) place ∙ ap (take size) (sym (drop-drop (size * i) size bytes)) ∙ later.0, later.1)

  -- rows behind a head, cut in two
  pub rows_cut : (xs : List X) (i h : ℕ) (bytes head rest : List ℕ) → AllByRecursion P xs → i ≤ length xs → length head ≡ h → bytes ≡ head ++ (flat_map spelled xs ++ rest) → (take (h + size * i) bytes ≡ head ++ flat_map spelled (take i xs)) × (drop (h + size * i) bytes ≡ flat_map spelled (drop i xs) ++ rest)
  rows_cut xs i h bytes head rest all le long e =
      let front = flat_map spelled (take i xs) in
      let back = flat_map spelled (drop i xs) in
      let fit = each_front P (take i xs) (drop i xs) (subst (AllByRecursion P) (sym (take-append-drop i xs)) all) in
      let both : flat_map spelled xs ≡ front ++ back = ap (flat_map spelled) (sym (take-append-drop i xs)) ∙ flat_map-append spelled (take i xs) (drop i xs) in
      let whole : bytes ≡ (head ++ front) ++ (back ++ rest) = e ∙ ap (λ x. head ++ (x ++ rest)) both ∙ simp append_assoc in
      let far : length (head ++ front) ≡ h + size * i = length-append head front ∙ ap (λ n. n + length front) long ∙ ap (λ n. h + n) (length-rows (take i xs) fit ∙ ap (λ n. size * n) (length-take-le i xs le)) in
      (ap (take (h + size * i)) whole ∙ take_at (head ++ front) (back ++ rest) (h + size * i) far, ap (drop (h + size * i)) whole ∙ drop_at (head ++ front) (back ++ rest) (h + size * i) far)

  -- one row written over the one at i
  pub row_set : (xs : List X) (i h : ℕ) (y : X) (bytes head rest new : List ℕ) (k : ℕ) → AllByRecursion P xs → i < length xs → length head ≡ h → bytes ≡ head ++ (flat_map spelled xs ++ rest) → k ≡ length bytes - (h + size * i) → new ≡ spelled y ++ drop size (mid_of (h + size * i) k bytes)
      → put_mid (h + size * i) k bytes new ≡ head ++ (flat_map spelled (take i xs ++ y ∷ drop (i + 1) xs) ++ rest)
  row_set xs i h y bytes head rest new k all lt long e far wrote =
      let n = h + size * i in
      let m = h + size * (i + 1) in
      let front = head ++ flat_map spelled (take i xs) in
      let before : take n bytes ≡ front = (rows_cut xs i h bytes head rest all (omega arith) long e).0 in
      let behind : drop m bytes ≡ flat_map spelled (drop (i + 1) xs) ++ rest = (rows_cut xs (i + 1) h bytes head rest all (omega arith) long e).1 in
      let whole : bytes ≡ front ++ drop n bytes = sym (take-append-drop n bytes) ∙ ap (λ x. x ++ drop n bytes) before in
      let fit = each_front P (take i xs) (drop i xs) (subst (AllByRecursion P) (sym (take-append-drop i xs)) all) in
      let many : length front ≡ n = length-append head (flat_map spelled (take i xs)) ∙ ap (λ z. z + length (flat_map spelled (take i xs))) long ∙ ap (λ z. h + z) (length-rows (take i xs) fit ∙ ap (λ z. size * z) (length-take-le i xs (omega arith))) in
      let step : m ≡ n + size = omega arith in
      then_writes front (spelled y) bytes bytes new n k size m whole many far wrote step
      ∙ ap (λ x. (front ++ spelled y) ++ x) behind
      ∙ regroup head (flat_map spelled (take i xs)) (spelled y) (flat_map spelled (drop (i + 1) xs)) rest
      ∙ ap (λ x. head ++ (x ++ rest)) (sym (flat_map-append spelled (take i xs) (y ∷ drop (i + 1) xs)))
    where
      regroup : (a b c d e : List ℕ) → ((a ++ b) ++ c) ++ (d ++ e) ≡ a ++ ((b ++ (c ++ d)) ++ e)
      regroup a b c d e = simp append_assoc

  -- the rows from i on moved one further, over bytes that are as long as one, and one row written in the place that they left
  pub row_insert : (xs : List X) (i h : ℕ) (y : X) (bytes head gap rest new : List ℕ) (k m : ℕ) → AllByRecursion P xs → i ≤ length xs → length head ≡ h → length gap ≡ size → bytes ≡ head ++ (flat_map spelled xs ++ (gap ++ rest)) → m ≡ size * length (drop i xs)
      → k ≡ length bytes - (h + size * i) → new ≡ spelled y ++ drop size (mid_of (h + size * i) k (paste bytes (h + size * (i + 1)) (drop (h + size * i) bytes) m))
      → put_mid (h + size * i) k (paste bytes (h + size * (i + 1)) (drop (h + size * i) bytes) m) new ≡ head ++ (flat_map spelled (take i xs ++ y ∷ drop i xs) ++ rest)
  row_insert xs i h y bytes head gap rest new k m all le long wide e many far wrote =
      let n = h + size * i in
      let t = h + size * (i + 1) in
      let a = flat_map spelled (take i xs) in
      let b = flat_map spelled (drop i xs) in
      let front = head ++ a in
      let cut = rows_cut xs i h bytes head (gap ++ rest) all le long e in
      let split = subst (AllByRecursion P) (sym (take-append-drop i xs)) all in
      let fronts : length front ≡ n = length-append head a ∙ ap (λ z. z + length a) long ∙ ap (λ z. h + z) (length-rows (take i xs) (each_front P (take i xs) (drop i xs) split) ∙ ap (λ z. size * z) (length-take-le i xs le)) in
      let backs : length b ≡ m = length-rows (drop i xs) (each_back P (take i xs) (drop i xs) split) ∙ sym many in
      let step : t ≡ n + size = omega arith in
      let whole : bytes ≡ (front ++ (b ++ gap)) ++ rest = sym (take-append-drop n bytes) ∙ ap (λ x. x ++ drop n bytes) cut.0 ∙ ap (λ x. front ++ x) cut.1 ∙ regroup_four front b gap rest in
      let reach : length (front ++ (b ++ gap)) ≡ t + m = omega (arith, length-append front (b ++ gap), length-append b gap, fronts, backs, step) in
      let room : t ≤ length bytes = omega (arith, ap length whole, length-append (front ++ (b ++ gap)) rest, reach) in
      let under : take m (drop n bytes) ≡ b = ap (take m) cut.1 ∙ take_at b (gap ++ rest) m backs in
      let past : drop (t + m) bytes ≡ rest = ap (drop (t + m)) whole ∙ drop_at (front ++ (b ++ gap)) rest (t + m) reach in
      let x = take t bytes in
      let moved = paste bytes t (drop n bytes) m in
      let is : moved ≡ x ++ (b ++ rest) = append_assoc x (take m (drop n bytes)) (drop (t + m) bytes) ∙ ap (λ z. x ++ (z ++ drop (t + m) bytes)) under ∙ ap (λ z. x ++ (b ++ z)) past in
      let lx : length x ≡ t = length-take-le t bytes room in
      let before : take n moved ≡ front = ap (take n) is ∙ take-append-le n x (b ++ rest) (omega (arith, lx, step)) ∙ take-take n t bytes (omega (arith, step)) ∙ cut.0 in
      let behind : drop t moved ≡ b ++ rest = ap (drop t) is ∙ drop_at x (b ++ rest) t lx in
      let same : length moved ≡ length bytes = omega (arith, ap length is, length-append x (b ++ rest), length-append b rest, ap length whole, length-append (front ++ (b ++ gap)) rest, reach, lx, backs) in
      let parts : moved ≡ front ++ drop n moved = sym (take-append-drop n moved) ∙ ap (λ z. z ++ drop n moved) before in
      then_writes front (spelled y) moved moved new n k size t parts fronts (far ∙ ap (λ z. z - n) (sym same)) wrote step
      ∙ ap (λ z. (front ++ spelled y) ++ z) behind
      ∙ regroup head a (spelled y) b rest
      ∙ ap (λ z. head ++ (z ++ rest)) (sym (flat_map-append spelled (take i xs) (y ∷ drop i xs)))
    where
      regroup : (a b c d e : List ℕ) → ((a ++ b) ++ c) ++ (d ++ e) ≡ a ++ ((b ++ (c ++ d)) ++ e)
      regroup a b c d e = simp append_assoc

      regroup_four : (a b c d : List ℕ) → a ++ (b ++ (c ++ d)) ≡ (a ++ (b ++ c)) ++ d
      regroup_four a b c d = simp append_assoc

  -- the rows behind the one at i moved over it, and as many bytes as one of them written where the last one stood
  pub row_remove : (xs : List X) (i h : ℕ) (bytes head rest new : List ℕ) (m e : ℕ) → AllByRecursion P xs → i < length xs → length head ≡ h → bytes ≡ head ++ (flat_map spelled xs ++ rest) → m ≡ size * length (drop (i + 1) xs) → e ≡ h + size * i + m
      → put_mid e size (paste bytes (h + size * i) (drop (h + size * (i + 1)) bytes) m) new ≡ head ++ (flat_map spelled (take i xs ++ drop (i + 1) xs) ++ (new ++ rest))
  row_remove xs i h bytes head rest new m e all lt long is many end =
      let n = h + size * i in
      let t = h + size * (i + 1) in
      let a = flat_map spelled (take i xs) in
      let b = flat_map spelled (drop (i + 1) xs) in
      let split = λ (k : ℕ). subst (AllByRecursion P) (sym (take-append-drop k xs)) all in
      let before : take n bytes ≡ head ++ a = (rows_cut xs i h bytes head rest all (omega arith) long is).0 in
      let behind : drop t bytes ≡ b ++ rest = (rows_cut xs (i + 1) h bytes head rest all (omega arith) long is).1 in
      let backs : length b ≡ m = length-rows (drop (i + 1) xs) (each_back P (take (i + 1) xs) (drop (i + 1) xs) (split (i + 1))) ∙ sym many in
      let fronts : length (head ++ a) ≡ n = length-append head a ∙ ap (λ z. z + length a) long ∙ ap (λ z. h + z) (length-rows (take i xs) (each_front P (take i xs) (drop i xs) (split i)) ∙ ap (λ z. size * z) (length-take-le i xs (omega arith))) in
      let under : take m (drop t bytes) ≡ b = ap (take m) behind ∙ take_at b rest m backs in
      let moved = paste bytes n (drop t bytes) m in
      let front = (head ++ a) ++ b in
      let parts : moved ≡ front ++ drop e bytes =
      ap (λ x. (x ++ take m (drop t bytes)) ++ drop (n + m) bytes) before ∙ ap (λ x. ((head ++ a) ++ x) ++ drop (n + m) bytes) under ∙ ap (λ k. front ++ drop k bytes) (sym end) in
      let whole : length front ≡ e = length-append (head ++ a) b ∙ ap (λ z. z + length b) fronts ∙ ap (λ z. n + z) backs ∙ sym end in
      let step : t ≡ n + size = omega arith in
      let far : e + size ≡ t + m = omega (arith, step, end) in
      let past : drop (e + size) bytes ≡ rest = ap (λ k. drop k bytes) far ∙ sym (drop-drop m t bytes) ∙ ap (drop m) behind ∙ drop_at b rest m backs in
      then_inside front new bytes moved new e size (e + size) parts whole refl refl
      ∙ ap (λ x. (front ++ new) ++ x) past
      ∙ regroup head a b new rest
      ∙ ap (λ x. head ++ (x ++ (new ++ rest))) (sym (flat_map-append spelled (take i xs) (drop (i + 1) xs)))
    where
      regroup : (a b c d e : List ℕ) → (((a ++ b) ++ c) ++ d) ++ e ≡ a ++ ((b ++ c) ++ (d ++ e))
      regroup a b c d e = simp append_assoc

  module _ (spelled_one : (x y : X) → P x → P y → spelled x ≡ spelled y → x ≡ y) where
    -- as many pieces of one spelling are the same
    pub rows_one : (xs ys : List X) → AllByRecursion P xs → AllByRecursion P ys → length xs ≡ length ys → flat_map spelled xs ≡ flat_map spelled ys → xs ≡ ys
    rows_one [] [] p q len e = refl
    rows_one [] (y ∷ ys) p q len e = absurd (omega arith)
    rows_one (x ∷ xs) [] p q len e = absurd (omega arith)
    rows_one (x ∷ xs) (y ∷ ys) p q len e =
        let lx = length-spelled x p.0 in
        let ly = length-spelled y q.0 in
        let first : spelled x ≡ spelled y =
        sym (take_at (spelled x) (flat_map spelled xs) size lx) ∙ ap (take size) e ∙ take_at (spelled y) (flat_map spelled ys) size ly in
        let rest : flat_map spelled xs ≡ flat_map spelled ys =
        sym (drop_at (spelled x) (flat_map spelled xs) size lx) ∙ ap (drop size) e ∙ drop_at (spelled y) (flat_map spelled ys) size ly in
        ap (λ z. z ∷ xs) (spelled_one x y p.0 q.0 first) ∙ ap (λ zs. y ∷ zs) (rows_one xs ys p.1 q.1 (omega arith) rest)

    -- pieces that were read are those that are spelled there
    pub rows_same : (xs ys : List X) (bytes rest : List ℕ) (i n : ℕ) → AllByRecursion P xs → AllByRecursion P ys → length xs ≡ i → length ys ≡ n → i ≡ n → take (size * i) bytes ≡ flat_map spelled xs → bytes ≡ flat_map spelled ys ++ rest → xs ≡ ys
    rows_same xs ys bytes rest i n p q lx ly same read is =
        let many : length ys ≡ i = omega arith in
        let len : length (flat_map spelled ys) ≡ size * i = length-rows ys q ∙ ap (λ k. size * k) many in
        rows_one xs ys p q (omega arith) (sym read ∙ ap (take (size * i)) is ∙ take_at (flat_map spelled ys) rest (size * i) len)
