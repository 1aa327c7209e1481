-- Standing entries that are added, taken out, or given other roots.
use Rattle.std.proofs.Common.{◌≡◌, ℕ, suc, Bool, true, false, not, ◌&&◌, ◌||◌, cond, List, [], ◌∷◌, ◌++◌, filter, find, length, Some, None, refl, sym, ap, ◌∙◌, subst}
use Rattle.std.specs.List.{list_any}
use Rattle.std.specs.Option.{option_eq}
use Rattle.std.specs.Str.{bytes_eq}
use Rattle.vm_types.specs.Firsts.{change_first, without_first}
use Rattle.vm_disk.specs.Disk.{Contents}
use Rattle.vm_block.specs.Slot.{is_alternative}
use Rattle.vm_store.specs.declared.version.Version.{Version}
use Rattle.vm_store.specs.Versions.{is_alternative_of, is_checkpoint_under, is_checkpoint_of, is_child_of, is_apart}
use Rattle.vm_store.specs.Filed.{Filed, StandsAs, Standing}
use Rattle.vm_store.proofs.FiledLemmas.{is_filed}
use Rattle.vm_store.proofs.GrownLemmas.{is_filed_under, is_filed_child}
use Rattle.vm_store.proofs.TakenLemmas.{is_filed_saved, is_filed_apart}

module _ (P : ℕ → Type 0) (x : Contents) (limit : ℕ) where
  -- a question that an entry and what it stands as answer alike
  abbrev pub Agree : (Version → Bool) → (Filed → Bool) → Type 0
  Agree test filed = (e : Version) (f : Filed) → StandsAs P x limit e f → filed f ≡ test e

  pub agree_alternative : (n : List ℕ) → Agree (is_alternative_of n) (is_filed n)
  agree_alternative n e f s = ap (λ k. is_alternative k && bytes_eq f.name n) s.kind ∙ ap (λ m. is_alternative e.kind && bytes_eq m n) s.name

  pub agree_under : (n : List ℕ) → Agree (is_checkpoint_under n) (is_filed_under n)
  agree_under n e f s = ap (λ k. not (is_alternative k) && option_eq bytes_eq f.owner (Some n)) s.kind ∙ ap (λ o. not (is_alternative e.kind) && option_eq bytes_eq o (Some n)) s.owner

  pub agree_saved : (n m : List ℕ) → Agree (is_checkpoint_of n m) (is_filed_saved n m)
  agree_saved n m e f s = ap (λ b. b && bytes_eq f.name m) (agree_under n e f s) ∙ ap (λ k. is_checkpoint_under n e && bytes_eq k m) s.name

  pub agree_child : (n : List ℕ) → Agree (is_child_of n) (is_filed_child n)
  agree_child n e f s = ap (λ k. is_alternative k && option_eq bytes_eq f.owner (Some n)) s.kind ∙ ap (λ o. is_alternative e.kind && option_eq bytes_eq o (Some n)) s.owner

  pub agree_apart : (n : List ℕ) → Agree (is_apart n) (is_filed_apart n)
  agree_apart n e f s = ap (λ b. not (b || is_filed_under n f)) (agree_alternative n e f s) ∙ ap (λ b. not (is_alternative_of n e || b)) (agree_under n e f s)

  pub standing_length : (es : List Version) (fs : List Filed) → Standing P x limit es fs → length fs ≡ length es
  standing_length [] [] s = refl
  standing_length (e ∷ es) (f ∷ fs) s = ap suc (standing_length es fs s.1)
  standing_length [] (f ∷ fs) s = absurd s
  standing_length (e ∷ es) [] s = absurd s

  -- one entry more
  pub standing_join : (es : List Version) (fs : List Filed) (e : Version) (f : Filed) → Standing P x limit es fs → StandsAs P x limit e f → Standing P x limit (es ++ e ∷ []) (fs ++ f ∷ [])
  standing_join [] [] e f s here = (here, tt)
  standing_join (d ∷ es) (g ∷ fs) e f s here = (s.0, standing_join es fs e f s.1 here)
  standing_join [] (g ∷ fs) e f s here = absurd s
  standing_join (d ∷ es) [] e f s here = absurd s

  module _ (test : Version → Bool) (filed : Filed → Bool) (agree : Agree test filed) where
    pub standing_any : (es : List Version) (fs : List Filed) → Standing P x limit es fs → list_any filed fs ≡ list_any test es
    standing_any [] [] s = refl
    standing_any (e ∷ es) (f ∷ fs) s = ap (λ b. b || list_any filed fs) (agree e f s.0) ∙ ap (λ b. test e || b) (standing_any es fs s.1)
    standing_any [] (f ∷ fs) s = absurd s
    standing_any (e ∷ es) [] s = absurd s

    -- those that pass
    pub standing_filter : (es : List Version) (fs : List Filed) → Standing P x limit es fs → Standing P x limit (filter test es) (filter filed fs)
    standing_filter [] [] s = tt
    standing_filter (e ∷ es) (f ∷ fs) s =
        subst (λ b. Standing P x limit (filter test (e ∷ es)) (cond b (f ∷ filter filed fs) (filter filed fs))) (sym (agree e f s.0))
        (elim (test e) as (λ b. Standing P x limit (cond b (e ∷ filter test es) (filter test es)) (cond b (f ∷ filter filed fs) (filter filed fs))) [
          | true ↦ (s.0, standing_filter es fs s.1)
          | false ↦ standing_filter es fs s.1
        ])
    standing_filter [] (f ∷ fs) s = absurd s
    standing_filter (e ∷ es) [] s = absurd s

    -- all but the first that passes
    pub standing_without : (es : List Version) (fs : List Filed) → Standing P x limit es fs → Standing P x limit (without_first test es) (without_first filed fs)
    standing_without [] [] s = tt
    standing_without (e ∷ es) (f ∷ fs) s =
        subst (λ b. Standing P x limit (without_first test (e ∷ es)) (cond b fs (f ∷ without_first filed fs))) (sym (agree e f s.0))
        (elim (test e) as (λ b. Standing P x limit (cond b es (e ∷ without_first test es)) (cond b fs (f ∷ without_first filed fs))) [
          | true ↦ s.1
          | false ↦ (s.0, standing_without es fs s.1)
        ])
    standing_without [] (f ∷ fs) s = absurd s
    standing_without (e ∷ es) [] s = absurd s

    -- the first that passes, changed
    pub standing_first : (φ : Version → Version) (ψ : Filed → Filed) (es : List Version) (fs : List Filed) → Standing P x limit es fs
        → ((e : Version) (f : Filed) → StandsAs P x limit e f → StandsAs P x limit (φ e) (ψ f)) → Standing P x limit (change_first test φ es) (change_first filed ψ fs)
    standing_first φ ψ [] [] s new = tt
    standing_first φ ψ (e ∷ es) (f ∷ fs) s new =
        subst (λ b. Standing P x limit (change_first test φ (e ∷ es)) (cond b (ψ f ∷ fs) (f ∷ change_first filed ψ fs))) (sym (agree e f s.0))
        (elim (test e) as (λ b. Standing P x limit (cond b (φ e ∷ es) (e ∷ change_first test φ es)) (cond b (ψ f ∷ fs) (f ∷ change_first filed ψ fs))) [
          | true ↦ (new e f s.0, s.1)
          | false ↦ (s.0, standing_first φ ψ es fs s.1 new)
        ])
    standing_first φ ψ [] (f ∷ fs) s new = absurd s
    standing_first φ ψ (e ∷ es) [] s new = absurd s

    -- what an entry that is found stands as
    pub record StandsFound (e : Version) (fs : List Filed) : Type 0 where
      pub this : Filed
      pub found : find filed fs ≡ Some this
      pub stands : StandsAs P x limit e this

    pub standing_found : (es : List Version) (fs : List Filed) (e : Version) → Standing P x limit es fs → find test es ≡ Some e → StandsFound e fs
    standing_found [] [] e s is = cc
    standing_found (d ∷ es) (f ∷ fs) e s is =
        elim (test d) as (λ b. test d ≡ b → cond b (Some d) (find test es) ≡ Some e → StandsFound e (f ∷ fs)) [
          | true ↦ λ it is. let same : d ≡ e = cc in record {
            this = f;
            found = ap (λ b. cond b (Some f) (find filed fs)) (agree d f s.0 ∙ it);
            stands = subst (λ (k : Version). StandsAs P x limit k f) same s.0;
          }
          | false ↦ λ it is. let more = standing_found es fs e s.1 is in record {
            this = more.this;
            found = ap (λ b. cond b (Some f) (find filed fs)) (agree d f s.0 ∙ it) ∙ more.found;
            stands = more.stands;
          }
        ] refl is
    standing_found [] (f ∷ fs) e s is = absurd s
    standing_found (d ∷ es) [] e s is = absurd s

    pub standing_none : (es : List Version) (fs : List Filed) → Standing P x limit es fs → find test es ≡ None → find filed fs ≡ None
    standing_none [] [] s is = refl
    standing_none (d ∷ es) (f ∷ fs) s is =
        elim (test d) as (λ b. test d ≡ b → cond b (Some d) (find test es) ≡ None → cond (filed f) (Some f) (find filed fs) ≡ None) [
          | true ↦ λ it is. cc
          | false ↦ λ it is. ap (λ b. cond b (Some f) (find filed fs)) (agree d f s.0 ∙ it) ∙ standing_none es fs s.1 is
        ] refl is
    standing_none [] (f ∷ fs) s is = absurd s
    standing_none (d ∷ es) [] s is = absurd s
