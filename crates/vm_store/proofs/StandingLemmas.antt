-- Versions whose maps stand: in other contents, found by name, and with one root changed.
use Rattle.std.proofs.Common.{◌≡◌, ℕ, Bool, true, false, ◌&&◌, cond, List, [], ◌∷◌, ◌++◌, find, Some, None, refl, sym, ap, ◌∙◌, subst}
use Rattle.std.specs.List.{AllByRecursion}
use Rattle.std.specs.Str.{bytes_eq}
use Rattle.vm_types.specs.Map.{Map}
use Rattle.vm_types.specs.Firsts.{change_first}
use Rattle.vm_disk.specs.Disk.{Contents, block}
use Rattle.vm_block.specs.Slot.{is_alternative}
use Rattle.vm_block.proofs.EachLemmas.{each_join, each_front, each_back, each_both}
use Rattle.vm_tree.specs.Tree.{IsData}
use Rattle.vm_tree.specs.Root.{IsRootedIn}
use Rattle.vm_tree.specs.declared.root.Root.{Root}
use Rattle.vm_store.specs.Sizes.{sizes}
use Rattle.vm_store.specs.Filed.{Filed, StandsAs, Standing, reach}
use Rattle.vm_store.specs.Versions.{is_alternative_of, with_current}
use Rattle.vm_store.specs.declared.version.Version.{Version}
use Rattle.vm_store.proofs.TopLemmas.{grown_in, grown_both, grown_data}
use Rattle.vm_store.proofs.FiledLemmas.{is_filed, refiled}

-- the frame law for versions: their blocks keep their bytes, and have another property as well
pub standing_in : (P Q : ℕ → Type 0) (x y : Contents) (limit : ℕ) → ((n : ℕ) → P n → block y n ≡ block x n) → ((n : ℕ) → P n → Q n)
    → (es : List Version) (fs : List Filed) → Standing P x limit es fs → Standing Q y limit es fs
standing_in P Q x y limit same so [] [] s = tt
standing_in P Q x y limit same so (e ∷ es) (f ∷ fs) s = (
  record {
    kind = s.0.kind;
    name = s.0.name;
    owner = s.0.owner;
    current = grown_in P Q x y limit same so e.current f.current s.0.current;
    base = grown_in P Q x y limit same so e.base f.base s.0.base;
  },
  standing_in P Q x y limit same so es fs s.1,
)
standing_in P Q x y limit same so [] (f ∷ fs) s = absurd s
standing_in P Q x y limit same so (e ∷ es) [] s = absurd s

-- versions stand in blocks of which two things are known
pub standing_both : (P Q : ℕ → Type 0) (x : Contents) (limit : ℕ) (es : List Version) (fs gs : List Filed) → Standing P x limit es fs → Standing Q x limit es gs → Standing (λ n. P n × Q n) x limit es fs
standing_both P Q x limit [] [] [] s t = tt
standing_both P Q x limit (e ∷ es) (f ∷ fs) (g ∷ gs) s t = (
  record {
    kind = s.0.kind;
    name = s.0.name;
    owner = s.0.owner;
    current = grown_both P Q x limit e.current f.current g.current s.0.current t.0.current;
    base = grown_both P Q x limit e.base f.base g.base s.0.base t.0.base;
  },
  standing_both P Q x limit es fs gs s.1 t.1,
)
standing_both P Q x limit [] [] (g ∷ gs) s t = absurd t
standing_both P Q x limit [] (f ∷ fs) gs s t = absurd s
standing_both P Q x limit (e ∷ es) [] gs s t = absurd s
standing_both P Q x limit (e ∷ es) (f ∷ fs) [] s t = absurd t

-- all blocks of standing versions are for data
pub standing_data : (P : ℕ → Type 0) (x : Contents) (limit : ℕ) (es : List Version) (fs : List Filed) → Standing P x limit es fs → Standing (λ n. P n × IsData limit n) x limit es fs
standing_data P x limit [] [] s = tt
standing_data P x limit (e ∷ es) (f ∷ fs) s = (
  record {
    kind = s.0.kind;
    name = s.0.name;
    owner = s.0.owner;
    current = grown_data P x limit e.current f.current s.0.current;
    base = grown_data P x limit e.base f.base s.0.base;
  },
  standing_data P x limit es fs s.1,
)
standing_data P x limit [] (f ∷ fs) s = absurd s
standing_data P x limit (e ∷ es) [] s = absurd s

-- what holds of the blocks of standing versions holds of all that they reach
pub reach_each : (P : ℕ → Type 0) (x : Contents) (limit : ℕ) (es : List Version) (fs : List Filed) (s : Standing P x limit es fs) → AllByRecursion P (reach P x limit es fs s)
reach_each P x limit [] [] s = tt
reach_each P x limit (e ∷ es) (f ∷ fs) s =
    each_join P s.0.current.stands_in _ s.0.current.each (each_join P s.0.base.stands_in _ s.0.base.each (reach_each P x limit es fs s.1))
reach_each P x limit [] (f ∷ fs) s = absurd s
reach_each P x limit (e ∷ es) [] s = absurd s

-- what holds of all that versions reach holds of the blocks in which they stand
pub standing_and : (P Q : ℕ → Type 0) (x : Contents) (limit : ℕ) (es : List Version) (fs : List Filed) (s : Standing P x limit es fs) → AllByRecursion Q (reach P x limit es fs s) → Standing (λ n. P n × Q n) x limit es fs
standing_and P Q x limit [] [] s all = tt
standing_and P Q x limit (e ∷ es) (f ∷ fs) s all =
    let current = s.0.current in
    let base = s.0.base in
    let behind = each_back Q current.stands_in (base.stands_in ++ reach P x limit es fs s.1) all in (
      record {
        kind = s.0.kind;
        name = s.0.name;
        owner = s.0.owner;
        current = record { stands_in = current.stands_in; rooted = current.rooted; each = each_both P Q current.stands_in current.each (each_front Q current.stands_in (base.stands_in ++ reach P x limit es fs s.1) all) };
        base = record { stands_in = base.stands_in; rooted = base.rooted; each = each_both P Q base.stands_in base.each (each_front Q base.stands_in (reach P x limit es fs s.1) behind) };
      },
      standing_and P Q x limit es fs s.1 (each_back Q base.stands_in (reach P x limit es fs s.1) behind),
    )
standing_and P Q x limit [] (f ∷ fs) s all = absurd s
standing_and P Q x limit (e ∷ es) [] s all = absurd s

-- a version that was found, and what it stands as
pub record FoundAs (P : ℕ → Type 0) (x : Contents) (limit : ℕ) (name : List ℕ) (e : Version) (fs : List Filed) : Type 0 where
  pub filed : Filed
  pub found : find (is_filed name) fs ≡ Some filed
  pub stands : StandsAs P x limit e filed

same_test : (P : ℕ → Type 0) (x : Contents) (limit : ℕ) (name : List ℕ) (e : Version) (f : Filed) → StandsAs P x limit e f → is_filed name f ≡ is_alternative_of name e
same_test P x limit name e f s = ap (λ k. is_alternative k && bytes_eq f.name name) s.kind ∙ ap (λ n. is_alternative e.kind && bytes_eq n name) s.name

pub found_as : (P : ℕ → Type 0) (x : Contents) (limit : ℕ) (name : List ℕ) (e : Version) (es : List Version) (fs : List Filed) → Standing P x limit es fs → find (is_alternative_of name) es ≡ Some e → FoundAs P x limit name e fs
found_as P x limit name e [] [] s is = cc
found_as P x limit name e (e' ∷ es) (f ∷ fs) s is =
    elim (is_alternative_of name e') as (λ b. is_alternative_of name e' ≡ b → cond b (Some e') (find (is_alternative_of name) es) ≡ Some e → FoundAs P x limit name e (f ∷ fs)) [
      | true ↦ λ test is. let same : e' ≡ e = cc in record {
        filed = f;
        found = ap (λ b. cond b (Some f) (find (is_filed name) fs)) (same_test P x limit name e' f s.0 ∙ test);
        stands = subst (λ (e : Version). StandsAs P x limit e f) same s.0;
      }
      | false ↦ λ test is. let more = found_as P x limit name e es fs s.1 is in record {
        filed = more.filed;
        found = ap (λ b. cond b (Some f) (find (is_filed name) fs)) (same_test P x limit name e' f s.0 ∙ test) ∙ more.found;
        stands = more.stands;
      }
    ] refl is
found_as P x limit name e [] (f ∷ fs) s is = absurd s
found_as P x limit name e (e' ∷ es) [] s is = absurd s

pub not_found : (P : ℕ → Type 0) (x : Contents) (limit : ℕ) (name : List ℕ) (es : List Version) (fs : List Filed) → Standing P x limit es fs → find (is_alternative_of name) es ≡ None → find (is_filed name) fs ≡ None
not_found P x limit name [] [] s is = refl
not_found P x limit name (e' ∷ es) (f ∷ fs) s is =
    elim (is_alternative_of name e') as (λ b. is_alternative_of name e' ≡ b → cond b (Some e') (find (is_alternative_of name) es) ≡ None → cond (is_filed name f) (Some f) (find (is_filed name) fs) ≡ None) [
      | true ↦ λ test is. cc
      | false ↦ λ test is. ap (λ b. cond b (Some f) (find (is_filed name) fs)) (same_test P x limit name e' f s.0 ∙ test) ∙ not_found P x limit name es fs s.1 is
    ] refl is
not_found P x limit name [] (f ∷ fs) s is = absurd s
not_found P x limit name (e' ∷ es) [] s is = absurd s

-- the first version of a name has another root, under which its records lie, changed so
pub standing_changed : (P : ℕ → Type 0) (x : Contents) (limit : ℕ) (name : List ℕ) (root : Root) (g : Map → Map) (es : List Version) (fs : List Filed) → Standing P x limit es fs
    → ((f : Filed) → find (is_filed name) fs ≡ Some f → IsRootedIn sizes P x limit root (g f.current))
    → Standing P x limit (change_first (is_alternative_of name) (with_current root) es) (change_first (is_filed name) (refiled g) fs)
standing_changed P x limit name root g [] [] s new = tt
standing_changed P x limit name root g (e ∷ es) (f ∷ fs) s new =
    subst (λ (b : Bool). Standing P x limit (change_first (is_alternative_of name) (with_current root) (e ∷ es)) (cond b (refiled g f ∷ fs) (f ∷ change_first (is_filed name) (refiled g) fs)))
    (sym (same_test P x limit name e f s.0))
    (elim (is_alternative_of name e) as (λ b. is_alternative_of name e ≡ b → Standing P x limit (cond b (with_current root e ∷ es) (e ∷ change_first (is_alternative_of name) (with_current root) es)) (cond b (refiled g f ∷ fs) (f ∷ change_first (is_filed name) (refiled g) fs))) [
      | true ↦ λ test. (
        record {
          kind = s.0.kind;
          name = s.0.name;
          owner = s.0.owner;
          current = new f (ap (λ b. cond b (Some f) (find (is_filed name) fs)) (same_test P x limit name e f s.0 ∙ test));
          base = s.0.base;
        },
        s.1,
      )
      | false ↦ λ test. (
        s.0,
        standing_changed P x limit name root g es fs s.1 (λ f' is. new f' (ap (λ b. cond b (Some f) (find (is_filed name) fs)) (same_test P x limit name e f s.0 ∙ test) ∙ is)),
      )
    ] refl)
standing_changed P x limit name root g [] (f ∷ fs) s new = absurd s
standing_changed P x limit name root g (e ∷ es) [] s new = absurd s
