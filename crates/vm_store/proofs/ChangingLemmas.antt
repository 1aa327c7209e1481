-- Changes made one after another: full paths in contents that agree on a tree, and what one change more answers.
use Rattle.std.proofs.Common.{◌≡◌, inl, inr, ℕ, zero, suc, ◌+◌, ◌<◌, Bool, List, [], ◌∷◌, ◌++◌, length, get_or, take, drop, Option, Some, None, Result, Ok, Err, refl, sym, ap, ◌∙◌, subst, arith, append_assoc}
use Rattle.std.specs.Prelude.{slice_index}
use Rattle.std.specs.List.{AllByRecursion}
use Rattle.std.proofs.Math.Seq.{split_at}
use Rattle.std.proofs.lemmas.List.{length-map, take_more}
use Rattle.vm_types.specs.declared.change.Change.{Change}
use Rattle.vm_types.specs.Map.{Map, get, without, with_value, put_or_taken, with_change, with_changes}
use Rattle.vm_types.specs.Places.{place}
use Rattle.vm_types.proofs.ChangeLemmas.{with_changes-more}
use Rattle.vm_types.proofs.Keys.{without_absent}
use Rattle.vm_disk.specs.Disk.{Contents, Medium, block}
use Rattle.vm_alloc.specs.Held.{IsHeld}
use Rattle.vm_block.specs.Leaf.{HasRecords, Record}
use Rattle.vm_block.specs.Node.{IsNode}
use Rattle.vm_block.specs.declared.node.Child.{Child}
use Rattle.vm_block.proofs.EachLemmas.{each_front, each_back}
use Rattle.vm_block.proofs.NodeLemmas.{node_one}
use Rattle.vm_tree.specs.FullPath.{FullPath, GrowsBy, blocks_of}
use Rattle.vm_tree.specs.Tree.{Children, Subtree}
use Rattle.vm_tree.specs.Answers.{LacksRoom, Puts}
use Rattle.vm_tree.specs.Root.{IsRooted, IsRootedIn}
use Rattle.vm_tree.specs.declared.root.Root.{Root}
use Rattle.vm_tree.specs.declared.faults.PutFault.{PutFault}
use Rattle.vm_tree.specs.declared.faults.PutFault.TheVariants.{Tree, Deep}
use Rattle.vm_tree.specs.declared.faults.TreeFault.{TreeFault}
use Rattle.vm_tree.specs.declared.faults.TreeFault.TheVariants.{Device, Damaged}
use Rattle.vm_tree.proofs.FullPaths.{grows_level}
use Rattle.vm_store.specs.ChangeList.{Makes, MeetsFullPath}
use Rattle.vm_store.specs.Sizes.{sizes}
use Rattle.vm_store.proofs.TopLemmas.{grown_in, grown_of}

-- ---- full paths in contents that agree on a tree

-- what lies under the child at i, in blocks that have P
record Under (P : ℕ → Type 0) (T : ℕ → List Record → List ℕ → Type 0) (b : ℕ) : Type 0 where
  records : List Record
  blocks : List ℕ
  tree : T b records blocks
  each : AllByRecursion P blocks

under_child : (P : ℕ → Type 0) (T : ℕ → List Record → List ℕ → Type 0) (cs : List Child) (i : ℕ) (rs : List Record) (bs : List ℕ)
    → i < length cs → Children T cs rs bs → AllByRecursion P bs → Under P T (slice_index (blocks_of cs) i)
under_child P T [] i rs bs lt t all = absurd (omega arith)
under_child P T (c ∷ cs) zero rs bs lt t all =
    record { records = t.0; blocks = t.2; tree = t.4; each = each_front P t.2 t.3 (subst (AllByRecursion P) t.8 all) }
under_child P T (c ∷ cs) (suc i) rs bs lt t all =
    under_child P T cs i t.1 t.3 (omega arith) t.6 (each_back P t.2 t.3 (subst (AllByRecursion P) t.8 all))

-- a block of a tree grows by as many blocks
grows_in : (P : ℕ → Type 0) (x y : Contents) (limit : ℕ) (r : Record) → ((n : ℕ) → P n → block y n ≡ block x n)
    → (l b more : ℕ) (rs : List Record) (bs : List ℕ) → Subtree sizes x limit l b rs bs → AllByRecursion P bs → GrowsBy sizes x r l b more → GrowsBy sizes y r l b more
unfolding Subtree GrowsBy
grows_in P x y limit r same zero b more rs bs tree all grows =
    let here = (subst (AllByRecursion P) tree.2 all).0 in
    (grows.0, subst (λ (bytes : List ℕ). HasRecords bytes grows.0) (sym (same b here)) grows.1, grows.2)
grows_in P x y limit r same (suc l) b more rs bs tree all grows =
    let whole = subst (AllByRecursion P) tree.6 all in
    let children = (node_one (block x b) (suc l) (suc l) tree.1 grows.0 tree.3 grows.3).1 in
    let below = subst (λ (cs : List Child). Children (Subtree sizes x limit l) cs rs tree.2) children tree.5 in
    let within : grows.1 < length grows.0 = omega (arith, grows.4.within, length-map grows.0 (λ (c : Child). place c.low)) in
    let child = under_child P (Subtree sizes x limit l) grows.0 grows.1 rs tree.2 within below whole.1 in (
      grows.0,
      grows.1,
      grows.2,
      subst (λ (bytes : List ℕ). IsNode bytes (suc l) grows.0) (sym (same b whole.0)) grows.3,
      grows.4,
      grows_in P x y limit r same l (slice_index (blocks_of grows.0) grows.1) grows.2 child.records child.blocks child.tree child.each grows.5,
      grows.6,
    )

-- and so the path from a root stays full
full_path_in : (P : ℕ → Type 0) (x y : Contents) (limit : ℕ) (r : Record) → ((n : ℕ) → P n → block y n ≡ block x n)
    → (root : Root) (m : Map) (bs : List ℕ) → IsRooted sizes x limit root m bs → AllByRecursion P bs → 0 < root.block → FullPath sizes x r root.block → FullPath sizes y r root.block
full_path_in P x y limit r same root m bs (inl bare) all some full = absurd (omega (arith, bare.none, some))
full_path_in P x y limit r same root m bs (inr top) all some full =
    let level = grows_level sizes x r limit full.0 root.level root.block full.1 m bs full.4 top.subtree in
    let tree = subst (λ l. Subtree sizes x limit l root.block m bs) (sym level) top.subtree in
    (full.0, full.1, full.2, full.3, grows_in P x y limit r same full.0 root.block full.1 m bs tree all full.4)

-- ---- one change

module _ (x y : Contents) (held now : List Bool) (limit : ℕ) (root : Root) (m : Map) (change : Change) where
  -- where a record finds no room, the blocks of the tree keep their bytes, and it meets a full path
  lacks_meets : (P : ℕ → Type 0) (value : List ℕ) → ((n : ℕ) → P n → block y n ≡ block x n) → IsRootedIn sizes P x limit root m → change.after ≡ Some value → LacksRoom sizes x root (change.key, value)
      → MeetsFullPath y limit m (change ∷ [])
  lacks_meets P value same grown sets lacks =
      let stays = grown_in P P x y limit same (λ n is. is) root m grown in
      record {
        earlier = [];
        change = change;
        later = [];
        parts = refl;
        value = value;
        sets = sets;
        root = root;
        blocks = stays.stands_in;
        tree = stays.rooted;
        some = lacks.some;
        full = full_path_in P x y limit (change.key, value) same root m grown.stands_in grown.rooted grown.each lacks.some lacks.full;
      }

  -- a change to a value answers what a Put of it answers
  pub put_makes : (value : List ℕ) (result : Result Root PutFault) → change.after ≡ Some value → (result ≡ Err Deep → (n : ℕ) → IsHeld held n → block y n ≡ block x n) → (grown : IsRootedIn sizes (IsHeld held) x limit root m)
      → Puts result (LacksRoom sizes x root (change.key, value)) (λ r. AllByRecursion (IsHeld held) grown.stands_in → IsRootedIn sizes (IsHeld now) y limit r (with_value m change.key value))
      → Makes result (MeetsFullPath y limit m (change ∷ [])) (λ r. IsRootedIn sizes (IsHeld now) y limit r (with_change m change))
  put_makes value (Ok r) is same grown put =
      subst (λ (after : Option (List ℕ)). IsRootedIn sizes (IsHeld now) y limit r (put_or_taken m change.key after)) (sym is) (put.0 grown.each)
  put_makes value (Err (Tree Device)) is same grown put = tt
  put_makes value (Err (Tree (Damaged b))) is same grown put = put
  put_makes value (Err Deep) is same grown put = lacks_meets (IsHeld held) value (same refl) grown is put

-- the old root has the map where the record to be taken out is absent
pub absent_makes : (old new : Medium) (held now : List Bool) (limit : ℕ) (root : Root) (m : Map) (change : Change) → change.after ≡ None → new ≡ old → now ≡ held → get m change.key ≡ None
    → IsRootedIn sizes (IsHeld held) old.contents limit root m → IsRootedIn sizes (IsHeld now) new.contents limit root (with_change m change)
absent_makes old new held now limit root m change is same still absent grown =
    subst (λ (after : Option (List ℕ)). IsRootedIn sizes (IsHeld now) new.contents limit root (put_or_taken m change.key after)) (sym is)
    (subst (λ (n : Map). IsRootedIn sizes (IsHeld now) new.contents limit root n) (sym (without_absent m change.key absent))
    (subst (λ (flags : List Bool). IsRootedIn sizes (IsHeld flags) new.contents limit root m) (sym still)
    (subst (λ (medium : Medium). IsRootedIn sizes (IsHeld held) medium.contents limit root m) (sym same) grown)))

-- what is left without a record is what a change to no value makes
pub rest_makes : (P : Map → Type 0) (m : Map) (change : Change) → change.after ≡ None → P (without m change.key) → P (with_change m change)
rest_makes P m change is left = subst (λ (after : Option (List ℕ)). P (put_or_taken m change.key after)) (sym is) left

-- a fault that is the device's is an answer
pub device_makes : {T : Type 0} (fault : TreeFault) (deep : Type 0) (P : T → Type 0) → fault ≡ Device → Makes (Err (Tree fault)) deep P
device_makes Device deep P is = tt
device_makes (Damaged b) deep P is = cc

-- ---- one change more

-- what stands at a place that a list has, whatever is taken where it has none
pub change_at : (changes : List Change) (i : ℕ) (d e : Change) → i < length changes → get_or changes i d ≡ get_or changes i e
change_at [] i d e lt = absurd (omega arith)
change_at (c ∷ changes) zero d e lt = refl
change_at (c ∷ changes) (suc i) d e lt = change_at changes i d e (omega (arith, lt))

with_changes-append : (m : Map) (earlier later : List Change) → with_changes m (earlier ++ later) ≡ with_changes (with_changes m earlier) later
with_changes-append m [] later = refl
with_changes-append m (c ∷ earlier) later = with_changes-append (with_change m c) earlier later

-- changes that were made before a full path was met, and others that come after it
meets_among : (y : Contents) (limit : ℕ) (m : Map) (before changes after : List Change) → MeetsFullPath y limit (with_changes m before) changes → MeetsFullPath y limit m (before ++ (changes ++ after))
meets_among y limit m before changes after meets =
    let n : with_changes (with_changes m before) meets.earlier ≡ with_changes m (before ++ meets.earlier) = sym (with_changes-append m before meets.earlier) in
    record {
      earlier = before ++ meets.earlier;
      change = meets.change;
      later = meets.later ++ after;
      parts = ap (λ cs. before ++ (cs ++ after)) meets.parts ∙ ap (λ cs. before ++ cs) (append_assoc meets.earlier (meets.change ∷ meets.later) after) ∙ sym (append_assoc before meets.earlier (meets.change ∷ (meets.later ++ after)));
      value = meets.value;
      sets = meets.sets;
      root = meets.root;
      blocks = meets.blocks;
      tree = subst (λ (k : Map). IsRooted sizes y limit meets.root k meets.blocks) n meets.tree;
      some = meets.some;
      full = meets.full;
    }

module _ (m : Map) (changes : List Change) (i : ℕ) (change : Change) (lt : i < length changes) (is : change ≡ get_or changes i change) where
  -- the change at i makes the first i changes i + 1
  pub made_more : (Q : ℕ → Type 0) (y : Contents) (limit other : ℕ) (root : Root) → other ≡ limit → IsRootedIn sizes Q y other root (with_change (with_changes m (take i changes)) change)
      → IsRootedIn sizes Q y limit root (with_changes m (take (i + 1) changes))
  made_more Q y limit other root same grown =
      let more : with_change (with_changes m (take i changes)) change ≡ with_changes m (take (i + 1) changes) =
      ap (with_change (with_changes m (take i changes))) is ∙ sym (with_changes-more m (take i changes) (get_or changes i change)) ∙ ap (with_changes m) (sym (take_more changes i change lt)) in
      subst (λ (k : Map). IsRootedIn sizes Q y limit root k) more (grown_of Q y other limit root _ same grown)

  meets_later : (y : Contents) (limit : ℕ) → MeetsFullPath y limit (with_changes m (take i changes)) (change ∷ []) → MeetsFullPath y limit m changes
  meets_later y limit meets =
      let rest = drop (suc i) changes in
      let parts : changes ≡ take i changes ++ change ∷ rest = split_at changes i change lt ∙ ap (λ c. take i changes ++ c ∷ rest) (sym is) in
      subst (λ (cs : List Change). MeetsFullPath y limit m cs) (sym parts) (meets_among y limit m (take i changes) (change ∷ []) rest meets)

  -- a fault in the change at i is the answer
  pub fault_makes : (y : Contents) (limit other : ℕ) (fault : PutFault) (P Q : Root → Type 0) → other ≡ limit → Makes (Err fault) (MeetsFullPath y other (with_changes m (take i changes)) (change ∷ [])) P
      → Makes (Err fault) (MeetsFullPath y limit m changes) Q
  fault_makes y limit other (Tree Device) P Q same makes = tt
  fault_makes y limit other (Tree (Damaged b)) P Q same makes = makes
  fault_makes y limit other Deep P Q same makes = meets_later y limit (subst (λ n. MeetsFullPath y n (with_changes m (take i changes)) (change ∷ [])) same makes)
