-- Keys are in a total order, and what a look-up gives after a change.
use Rattle.std.proofs.Common.{◌≡◌, ℕ, Bool, true, false, cond, not, T, List, [], ◌∷◌, is_lt, Some, None, IsTrue, Decides, Ordering, Less, Equal, Greater, nat_cmp, refl, sym, ap, subst}
use Rattle.std.specs.Ordering.{ordering_then}
use Rattle.std.specs.Cmp.{IsTotalOrder, nat_cmp_total, on_total, then_total, tied_itself, Equal-is}
use Rattle.std.specs.FinMap.{nat_cmp-IsAntisymmetric}
use Rattle.std.specs.FinMap.Entries as entries
use Rattle.vm_types.specs.declared.key.Key.{Key}
use Rattle.vm_types.specs.Map.{key_cmp, same_key, Map, IsMap, get, with_value, without}

-- a test that holds, in the two forms in which the library says so
pub passed : (b : Bool) → IsTrue b → T b
passed b h = subst T (sym h) tt

pub holding : (b : Bool) → T b → IsTrue b
holding true h = refl
holding false h = absurd h

pub is_less : (o : Ordering) → is_lt o ≡ true → o ≡ Less
is_less Less h = refl
is_less Equal h = cc
is_less Greater h = cc

pub keys_total : IsTotalOrder key_cmp
keys_total = then_total (on_total (λ (k : Key). k.table) nat_cmp_total) (on_total (λ (k : Key). k.number) nat_cmp_total)

-- keys that tie are equal
pub exact_keys : (a b : Key) → key_cmp a b ≡ Equal → a ≡ b
exact_keys a b h =
    elim (nat_cmp a.table b.table) as (λ o. nat_cmp a.table b.table ≡ o → ordering_then o (nat_cmp a.number b.number) ≡ Equal → a ≡ b) [
      | Less ↦ λ p e. cc
      | Greater ↦ λ p e. cc
      | Equal ↦ λ p e.
          let tables = nat_cmp-IsAntisymmetric a.table b.table p in
          let numbers = nat_cmp-IsAntisymmetric a.number b.number e in
          λ i. record { table = tables i; number = numbers i }
    ] refl h

pub same_key-Decides : (a b : Key) → Decides (same_key a b) (a ≡ b)
same_key-Decides a b =
    let tied = Equal-is (key_cmp a b) in
    (λ t. exact_keys a b (tied.0 t), λ e. tied.1 (subst (λ k. key_cmp a k ≡ Equal) e (tied_itself keys_total a)))

-- the value that was put at a key, and the old one at every other
pub get-with_value : (m : Map) (k : Key) (v : List ℕ) (q : Key) → get (with_value m k v) q ≡ cond (same_key q k) (Some v) (get m q)
get-with_value m k v q = entries.find-put key_cmp keys_total q k v m

-- none at a key that was taken out, and the old one at every other
pub get-without : (m : Map) (k q : Key) → get (without m k) q ≡ cond (not (same_key k q)) (get m q) None
get-without m k q = entries.find-where_key key_cmp (λ x. not (same_key k x)) q (λ x e. ap (λ y. not (same_key k y)) (sym (exact_keys q x e))) m

pub IsMap-with_value : (m : Map) (k : Key) (v : List ℕ) → IsMap m → IsMap (with_value m k v)
IsMap-with_value m k v h = holding _ (entries.is_sorted-put key_cmp keys_total k v m (passed _ h))

pub IsMap-without : (m : Map) (k : Key) → IsMap m → IsMap (without m k)
IsMap-without m k h = holding _ (entries.is_sorted-where_key key_cmp (λ x. not (same_key k x)) m (passed _ h))

-- maps that have the same value at each key are equal
pub same_maps : (m n : Map) → IsMap m → IsMap n → ((q : Key) → get m q ≡ get n q) → m ≡ n
same_maps m n g h is = entries.same_entries key_cmp keys_total exact_keys m n (passed _ g) (passed _ h) is

-- a key that stands at no record is not taken out
pub without_absent : (m : Map) (k : Key) → get m k ≡ None → without m k ≡ m
without_absent [] k h = refl
without_absent (x ∷ m) k h =
    elim (same_key k x.0) as (λ t. cond t (Some x.1) (get m k) ≡ None → cond (not t) (x ∷ without m k) (without m k) ≡ x ∷ m) [
      | true ↦ λ e. cc
      | false ↦ λ e. ap (λ rest. x ∷ rest) (without_absent m k e)
    ] h
