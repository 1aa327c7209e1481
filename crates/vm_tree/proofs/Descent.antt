-- The way down to a place: the child that is chosen holds all records that could stand there.
use Rattle.std.proofs.Common.{◌≡◌, ℕ, zero, suc, ◌+◌, ◌-◌, ◌<◌, ◌≤◌, List, [], ◌∷◌, ◌++◌, length, get_or, take, drop, Option, Result, Ok, Err, sym, ap, ◌∙◌, subst, arith, length-drop, get_or-drop}
use Rattle.std.specs.Prelude.{slice_index}
use Rattle.std.proofs.lemmas.List.{length-map, get_or-map, drop-map}
use Rattle.vm_types.specs.declared.key.Key.{Key}
use Rattle.vm_types.specs.Map.{get}
use Rattle.vm_types.specs.Places.{KeyFits, place, RisesFrom, places, value_at}
use Rattle.vm_types.proofs.Bridge.{value_at-get}
use Rattle.vm_disk.specs.Disk.{Contents, block, Medium}
use Rattle.vm_block.specs.Leaf.{Record, RecordFits, BeginsWith}
use Rattle.vm_block.specs.Node.{IsNode, lows}
use Rattle.vm_block.specs.Way.{IsChosen, Lowest, Takes}
use Rattle.vm_block.specs.declared.node.Child.{Child}
use Rattle.vm_block.proofs.EachLemmas.{each_so}
use Rattle.vm_block.proofs.NodeLemmas.{node_one}
use Rattle.vm_tree.specs.Tree.{Sizes, IsData, Children, Subtree}
use Rattle.vm_tree.specs.Answers.{OkOrDevice}
use Rattle.vm_tree.specs.Given.{IsLeafWith}
use Rattle.vm_tree.specs.BlockReads.{IsNodeAt}
use Rattle.vm_tree.specs.declared.faults.TreeFault.{TreeFault}
use Rattle.vm_tree.proofs.TreeLemmas.{node_opens, subtree_fit}
use Rattle.vm_tree.proofs.Rising.{Below, Above, rises_front, rises_back, rises_before, rises_above, below_more, value_between}
use Rattle.vm_tree.proofs.Splitting.{SplitAt, split_at}

-- what stands before records that begin with a key is below the key
before_begins : (low : _) (before sub after : List Record) → BeginsWith low sub → RisesFrom 0 (places (before ++ (sub ++ after))) → Below (place low) before
before_begins low before [] after begins rises = absurd begins
before_begins low before (y ∷ sub) after begins rises =
    subst (λ key. Below (place key) before) begins (rises_before 0 before y (sub ++ after) rises)

-- what lies under children above a place is above it
after_above : (T : ℕ → List Record → List ℕ → Type 0) (cs : List Child) (p low : ℕ) (rs : List Record) (bs : List ℕ)
    → Children T cs rs bs → (0 < length cs → p < slice_index (lows cs) 0) → RisesFrom low (places rs) → Above p rs
after_above T [] p low rs bs t lt rises = subst (Above p) (sym t.0) tt
after_above T (c ∷ cs) p low rs bs t lt rises =
    let R : List Record → Type 0 = λ qs. RisesFrom low (places qs) in
    subst (Above p) (sym t.7) (begins_above t.0 t.5 (subst R t.7 rises))
  where
    begins_above : (first : List Record) → BeginsWith c.low first → RisesFrom low (places (first ++ t.1)) → Above p (first ++ t.1)
    begins_above [] begins rises = absurd begins
    begins_above (y ∷ first) begins rises =
        let here : p < place y.0 = omega (arith, ap place begins, lt (omega arith)) in
        (here, rises_above p (place y.0 + 1) (first ++ t.1) (omega arith) rises.1)

module _ (T : ℕ → List Record → List ℕ → Type 0) where
  -- a list of children taken apart at the one that is chosen for place p
  pub record Descends (cs : List Child) (p i : ℕ) (d : Child) (rs : List Record) (bs : List ℕ) : Type 0 where
    pub split : SplitAt T cs i d rs bs
    pub below : Below p split.before
    pub above : Above p split.after
    pub rising : RisesFrom 0 (places split.sub)

  pub descends : (cs : List Child) (p i : ℕ) (d : Child) (rs : List Record) (bs : List ℕ) → IsChosen (lows cs) p i → RisesFrom 0 (places rs) → Children T cs rs bs → Descends cs p i d rs bs
  descends cs p i d rs bs chosen rises t =
      let within : i < length cs = omega (arith, chosen.within, length-map cs (λ (c : Child). place c.low)) in
      let s = split_at T cs i d rs bs within t in
      let R : List Record → Type 0 = λ qs. RisesFrom 0 (places qs) in
      let whole = subst R s.records rises in
      let back = rises_back 0 s.before (s.sub ++ s.after) whole in
      let next = drop (suc i) cs in
      record {
        split = s;
        below = first_or_not i s.before s.left s.front (λ some. omega (arith, chosen.reached some, get_or-map (λ (c : Child). place c.low) cs i d 0 within)) (before_begins (get_or cs i d).low s.before s.sub s.after s.begins whole);
        above = after_above T next p 0 s.after s.right s.back
            (λ some. let more : i + 1 < length (lows cs) = omega (arith, length-drop (suc i) cs, length-map cs (λ (c : Child). place c.low)) in
            let at = chosen.last more in
            let same : slice_index (lows next) 0 ≡ slice_index (lows cs) (suc i) = ap (λ (ns : List ℕ). get_or ns 0 0) (sym (drop-map (λ (c : Child). place c.low) (suc i) cs)) ∙ get_or-drop (suc i) (lows cs) 0 0 ∙ ap (λ n. get_or (lows cs) n 0) (omega arith) in
            let here : slice_index (lows cs) (i + 1) ≡ slice_index (lows cs) (suc i) = ap (λ n. get_or (lows cs) n 0) (omega arith) in
            omega (arith, at, same, here))
            (rises_back 0 s.sub s.after back);
        rising = rises_front 0 s.sub s.after back;
      }
    where
      first_or_not : (j : ℕ) (before : List Record) (left : List ℕ) → Children T (take j cs) before left → (0 < j → place (get_or cs i d).low ≤ p) → Below (place (get_or cs i d).low) before → Below p before
      first_or_not zero before left t le all = subst (Below p) (sym t.0) tt
      first_or_not (suc j) before left t le all = below_more (place (get_or cs i d).low) p before (le (omega arith)) all

-- an inner block of a tree that was read, and the child in it that was chosen for place p
pub record Opened (sizes : Sizes) (x : Contents) (limit level b p : ℕ) (rs : List Record) (bs : List ℕ) (cs : List Child) (i : ℕ) (d : Child) : Type 0 where
  pub inside : IsData limit b
  pub node : IsNode (block x b) level cs
  pub few : length cs ≤ sizes.fan
  pub under : List ℕ
  pub first : bs ≡ b ∷ under
  pub way : Descends (Subtree sizes x limit (level - 1)) cs p i d rs under

pub opens : (sizes : Sizes) (x : Contents) (limit level b p : ℕ) (rs : List Record) (bs : List ℕ) (cs : List Child) (i : ℕ) (d : Child) → 0 < level
    → Subtree sizes x limit level b rs bs → RisesFrom 0 (places rs) → ((ds : List Child) → IsNodeAt x limit level b ds → length ds ≤ sizes.fan → cs ≡ ds) → IsChosen (lows cs) p i
    → Opened sizes x limit level b p rs bs cs i d
opens sizes x limit level b p rs bs cs i d above tree rises only chosen =
    let up : suc (level - 1) ≡ level = omega arith in
    let at = node_opens sizes x limit level (level - 1) b rs bs (sym up) tree in
    let node = subst (λ n. IsNode (block x b) n at.children) up at.node in
    let same = only at.children (record { inside = at.place; node = node }) at.few in
    record {
      inside = at.place;
      node = subst (λ (ds : List Child). IsNode (block x b) level ds) (sym same) node;
      few = subst (λ (ds : List Child). length ds ≤ sizes.fan) (sym same) at.few;
      under = at.under;
      first = at.first;
      way = descends (Subtree sizes x limit (level - 1)) cs p i d rs at.under chosen rises (subst (λ (ds : List Child). Children (Subtree sizes x limit (level - 1)) ds rs at.under) (sym same) at.below);
    }

-- the top of a subtree is a block for data
pub subtree_top : (sizes : Sizes) (x : Contents) (limit l b : ℕ) (rs : List Record) (bs : List ℕ) → Subtree sizes x limit l b rs bs → IsData limit b
unfolding Subtree
subtree_top sizes x limit zero b rs bs tree = tree.0
subtree_top sizes x limit (suc l) b rs bs tree = tree.0

-- what follows from an answer follows from it under the same fault
pub ok_map : {T : Type 0} (result : Result T TreeFault) (P Q : T → Type 0) → OkOrDevice result P → ((x : T) → P x → Q x) → OkOrDevice result Q
ok_map (Ok x) P Q h so = so x h
ok_map (Err e) P Q h so = h

-- what is answered of the value under a chosen child holds of the value under its parent
pub node_value : {T : Type 0} (P : Option (List ℕ) → T → Type 0) (sizes : Sizes) (old mid : Medium) (limit level b p : ℕ) (rs : List Record) (bs : List ℕ) (cs : List Child) (i : ℕ) (d : Child) (result : Result T TreeFault)
    → mid ≡ old → 0 < level → Subtree sizes old.contents limit level b rs bs → RisesFrom 0 (places rs)
    → ((ds : List Child) → IsNodeAt old.contents limit level b ds → length ds ≤ sizes.fan → cs ≡ ds) → IsChosen (lows cs) p i
    → ((sub : List Record) (own : List ℕ) → Subtree sizes mid.contents limit (level - 1) (get_or cs i d).block sub own → BeginsWith (get_or cs i d).low sub → RisesFrom 0 (places sub) → OkOrDevice result (P (value_at p sub)))
    → OkOrDevice result (P (value_at p rs))
node_value P sizes old mid limit level b p rs bs cs i d result still above tree rises only chosen below =
    let at = opens sizes old.contents limit level b p rs bs cs i d above tree rises only chosen in
    let s = at.way.split in
    let child = subst (λ (m : Medium). Subtree sizes m.contents limit (level - 1) (get_or cs i d).block s.sub s.own) (sym still) s.child in
    subst (λ (value : Option (List ℕ)). OkOrDevice result (P value)) (sym (ap (value_at p) s.records ∙ value_between p s.before s.sub s.after at.way.below at.way.above))
    (below s.sub s.own child s.begins at.way.rising)

-- the same of a child that was found in the bytes of its parent
pub way_value : {T : Type 0} (P : Option (List ℕ) → T → Type 0) (sizes : Sizes) (old mid : Medium) (limit level b p : ℕ) (rs : List Record) (bs : List ℕ) (cs : List Child) (i : ℕ) (c : Child) (result : Result T TreeFault)
    → mid ≡ old → 0 < level → Subtree sizes old.contents limit level b rs bs → RisesFrom 0 (places rs) → IsNodeAt old.contents limit level b cs → Takes cs p i c
    → ((sub : List Record) (own : List ℕ) → Subtree sizes mid.contents limit (level - 1) c.block sub own → BeginsWith c.low sub → RisesFrom 0 (places sub) → OkOrDevice result (P (value_at p sub)))
    → OkOrDevice result (P (value_at p rs))
way_value P sizes old mid limit level b p rs bs cs i c result still above tree rises at takes below =
    node_value P sizes old mid limit level b p rs bs cs i c result still above tree rises
    (λ ds other few. (node_one (block old.contents b) level level cs ds at.node other.node).1) takes.chosen
    (λ sub own under begins rising. below sub own (subst (λ (d : Child). Subtree sizes mid.contents limit (level - 1) d.block sub own) takes.child under) (subst (λ (d : Child). BeginsWith d.low sub) takes.child begins) rising)

-- the same leaf where the disk has not changed
pub leaf_now : (sizes : Sizes) (old mid : Medium) (limit p : ℕ) (value : Option (List ℕ)) (leaf : Child) → mid ≡ old → IsLeafWith sizes old.contents limit p value leaf → IsLeafWith sizes mid.contents limit p value leaf
leaf_now sizes old mid limit p value leaf still at = subst (λ (m : Medium). IsLeafWith sizes m.contents limit p value leaf) (sym still) at

-- the value where a key stands in a tree is the value at the key
pub value_whole : (sizes : Sizes) (x : Contents) (limit l b : ℕ) (rs : List Record) (bs : List ℕ) (key : Key) → KeyFits key → Subtree sizes x limit l b rs bs → value_at (place key) rs ≡ get rs key
value_whole sizes x limit l b rs bs key fits tree =
    value_at-get key rs fits (each_so RecordFits (λ r. KeyFits r.0) (λ r within. within.0) rs (subtree_fit sizes x limit l b rs bs tree))

-- children over records have the lowest key with which these begin
pub lowest_of : (T : ℕ → List Record → List ℕ → Type 0) (cs : List Child) (low : Key) (rs : List Record) (bs : List ℕ) → 0 < length cs → Children T cs rs bs → BeginsWith low rs → Lowest low cs
lowest_of T [] low rs bs some t begins = absurd (omega arith)
lowest_of T (c ∷ cs) low rs bs some t begins = first_key t.0 t.5 (subst (BeginsWith low) t.7 begins)
  where
    first_key : (first : List Record) → BeginsWith c.low first → BeginsWith low (first ++ t.1) → c.low ≡ low
    first_key [] own all = absurd own
    first_key (y ∷ first) own all = sym own ∙ all

-- what is read of an inner block of a tree
pub node_read : (sizes : Sizes) (x : Contents) (limit level b : ℕ) (rs : List Record) (bs : List ℕ) → 0 < level → Subtree sizes x limit level b rs bs
    → (cs : List Child) × IsNodeAt x limit level b cs × (length cs ≤ sizes.fan) × ((low : Key) → BeginsWith low rs → Lowest low cs)
node_read sizes x limit level b rs bs above tree =
    let up : suc (level - 1) ≡ level = omega arith in
    let at = node_opens sizes x limit level (level - 1) b rs bs (sym up) tree in
    (at.children, record { inside = at.place; node = subst (λ n. IsNode (block x b) n at.children) up at.node }, at.few, λ low begins. lowest_of (Subtree sizes x limit (level - 1)) at.children low rs at.under at.node.some at.below begins)

-- what lies under an inner block that was read
pub node_under : (sizes : Sizes) (x : Contents) (limit level b : ℕ) (rs : List Record) (bs : List ℕ) (cs : List Child) → 0 < level → Subtree sizes x limit level b rs bs → ((ds : List Child) → IsNodeAt x limit level b ds → cs ≡ ds)
    → (under : List ℕ) × Children (Subtree sizes x limit (level - 1)) cs rs under
node_under sizes x limit level b rs bs cs above tree only =
    let up : suc (level - 1) ≡ level = omega arith in
    let at = node_opens sizes x limit level (level - 1) b rs bs (sym up) tree in
    let same = only at.children (record { inside = at.place; node = subst (λ n. IsNode (block x b) n at.children) up at.node }) in
    (at.under, subst (λ (ds : List Child). Children (Subtree sizes x limit (level - 1)) ds rs at.under) (sym same) at.below)
