-- What contents show is one tree.
use Rattle.std.proofs.Common.{◌≡◌, ℕ, List, [], ◌∷◌, refl, sym, ap, ◌∙◌, subst}
use Rattle.vm_types.specs.Map.{Map}
use Rattle.vm_types.specs.State.{Seen}
use Rattle.vm_types.specs.Tree.{Tree}
use Rattle.vm_disk.specs.Disk.{Contents}
use Rattle.vm_catalog.proofs.SlotOne.{names_one}
use Rattle.vm_tree.specs.Tree.{IsTree}
use Rattle.vm_tree.specs.Root.{IsRootedIn}
use Rattle.vm_tree.specs.declared.root.Root.{Root}
use Rattle.vm_store.specs.Sizes.{sizes}
use Rattle.vm_store.specs.Filed.{Anywhere, Filed, StandsAs, Standing, tree_of}
use Rattle.vm_store.specs.Shown.{Shows}
use Rattle.vm_store.specs.Versions.{entry_of, slot_entries}
use Rattle.vm_store.specs.declared.version.Version.{Version}
use Rattle.vm_store.proofs.TopLemmas.{rooted_tree}
use Rattle.vm_tree.proofs.TreeLemmas.{tree_one}

-- under two roots of one block lies one map
map_one : (P : ℕ → Type 0) (x : Contents) (limit : ℕ) (r q : Root) (m n : Map) → r.block ≡ q.block → IsRootedIn sizes P x limit r m → IsRootedIn sizes P x limit q n → m ≡ n
map_one P x limit r q m n same one other =
    (tree_one sizes x limit q.block m n one.stands_in other.stands_in
    (subst (λ b. IsTree sizes x limit b m one.stands_in) same (rooted_tree x limit r m one.stands_in one.rooted))
    (rooted_tree x limit q n other.stands_in other.rooted)).0

-- two versions that a slot calls the same have the same maps
filed_one : (P : ℕ → Type 0) (x : Contents) (limit : ℕ) (v w : Version) (f g : Filed) → entry_of v ≡ entry_of w → StandsAs P x limit v f → StandsAs P x limit w g → f ≡ g
filed_one P x limit v w f g same one other =
    let kind : f.kind ≡ g.kind = one.kind ∙ ap (λ e. e.kind) same ∙ sym other.kind in
    let name : f.name ≡ g.name = one.name ∙ ap (λ e. e.name) same ∙ sym other.name in
    let owner : f.owner ≡ g.owner = one.owner ∙ ap (λ e. e.owner) same ∙ sym other.owner in
    let current = map_one P x limit v.current w.current f.current g.current (ap (λ e. e.current) same) one.current other.current in
    let base = map_one P x limit v.base w.base f.base g.base (ap (λ e. e.base) same) one.base other.base in
    ap (λ k. record { kind = k; name = f.name; owner = f.owner; current = f.current; base = f.base }) kind
    ∙ ap (λ n. record { kind = g.kind; name = n; owner = f.owner; current = f.current; base = f.base }) name
    ∙ ap (λ o. record { kind = g.kind; name = g.name; owner = o; current = f.current; base = f.base }) owner
    ∙ ap (λ (m : Map). record { kind = g.kind; name = g.name; owner = g.owner; current = m; base = f.base }) current
    ∙ ap (λ (m : Map). record { kind = g.kind; name = g.name; owner = g.owner; current = g.current; base = m }) base

-- and so have all of them
pub all_filed_one : (P : ℕ → Type 0) (x : Contents) (limit : ℕ) (vs ws : List Version) (fs gs : List Filed) → slot_entries vs ≡ slot_entries ws → Standing P x limit vs fs → Standing P x limit ws gs → fs ≡ gs
all_filed_one P x limit [] [] [] [] same s t = refl
all_filed_one P x limit (v ∷ vs) (w ∷ ws) (f ∷ fs) (g ∷ gs) same s t =
    let head : entry_of v ≡ entry_of w = cc in
    let tail : slot_entries vs ≡ slot_entries ws = cc in
    let first = filed_one P x limit v w f g head s.0 t.0 in
    let rest = all_filed_one P x limit vs ws fs gs tail s.1 t.1 in
    ap (λ h. h ∷ fs) first ∙ ap (λ hs. g ∷ hs) rest
all_filed_one P x limit [] (w ∷ ws) fs gs same s t = cc
all_filed_one P x limit (v ∷ vs) [] fs gs same s t = cc
all_filed_one P x limit [] [] (f ∷ fs) gs same s t = absurd s
all_filed_one P x limit [] [] [] (g ∷ gs) same s t = absurd t
all_filed_one P x limit (v ∷ vs) (w ∷ ws) [] gs same s t = absurd s
all_filed_one P x limit (v ∷ vs) (w ∷ ws) (f ∷ fs) [] same s t = absurd t

pub shown_one : (x : Contents) (t u : Seen) → Shows x t → Shows x u → t ≡ u
shown_one x t u one other =
    let named = names_one x t.blocks u.blocks (slot_entries one.versions) (slot_entries other.versions) one.names other.names in
    let stands = subst (λ l. Standing Anywhere x l one.versions one.filed) named.0 one.stands in
    let same = all_filed_one Anywhere x u.blocks one.versions other.versions one.filed other.filed named.1 stands other.stands in
    let tree : t.tree ≡ u.tree = sym one.gives ∙ ap tree_of same ∙ other.gives in
    ap (λ (a : Tree). record { tree = a; blocks = t.blocks }) tree ∙ ap (λ n. record { tree = u.tree; blocks = n }) named.0
