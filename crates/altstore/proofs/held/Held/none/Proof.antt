-- `none` makes a null pointer, which owns nothing.
use mir.Val.{of_list, vnull, vstruct}
use types.Kit.{fpack}
use types.Run.{lit}
use lib.Dec.{lit<}
use denote.RattleType.{Valss}
use denote.Struct.Owning.{shape}
use denote.Struct.Struct.{within}
use Rattle.altstore.proofs.Walking.{refl, sym, subst, List, [], ◌∷◌, ◌++◌, Ura, Val, SProp, emp, ent, id⊢, fsep, ftrue, Fun, tables, tables_of, Memory, Routine, Tables, WpFn, WpFn-mono, Logic, Item, ‵, raw, ◌⊛◌, ◌$◌, ◌∵◌, !, qed, by, move, drop, use1, join, split, fsplit, fjoin, feq_i, suffices, done, agg, and_then, enter, no_more, returns, alloc_all, free_all, get, look_at, pass_all, sets, yes, RawPtr, Slot, null_ptr, plain, ptr_val, nothing, triple_of, entered, Goes-dropped, Stays, ends_at, handle_tells, says, stay_dropped, walk_Meets, walk_of}
use Rattle.std.specs.Prelude.{None}
use Rattle.std_alloc.proofs.BoxSteps.Form
use Rattle.std_alloc.proofs.ResultValues.{and_tt}
use Rattle.core.proofs.alloc.Calls.{α}
use Rattle.std_heap.specs.contracts.Global as Heap
use Rattle.altstore.proofs.Boxes.{SessionBox}
use Rattle.altstore.specs.contracts.held.Held as held
use Rattle.altstore.specs.contracts.held.Held.none as f
use Rattle.altstore.specs.contracts.held.Held.none.Key.{name as key}
use Rattle.altstore.proofs.held.Held.none.Statement.{statement}
use Rattle.altstore.proofs.held.Held.none.Code as code

abbrev GlobalSlot : Slot 0
GlobalSlot = plain (λ _. Heap.the_row)

abbrev stayed : Stays f.ended.signature.params f.ended.kept
stayed = (stay_dropped GlobalSlot yes, tt)

module _ {M : Type 1} {𝓤 : Ura M} (𝓛 : Logic 𝓤) (at_mem : Memory → SProp 𝓤) (run : Routine → Fun 𝓤) (𝓣 : Tables 𝓤 𝓛.H) where
  open 𝓛 use {H}

  walk : (z : (walk_of 𝓛 f.ended stayed (f.clauses 𝓛 at_mem run)).Ghost)
      → ent 𝓤 ((walk_of 𝓛 f.ended stayed (f.clauses 𝓛 at_mem run)).pre z) (WpFn 𝓤 H 𝓣.C 𝓣.Λ code.function (z.0.4.0 ++ []) ((walk_of 𝓛 f.ended stayed (f.clauses 𝓛 at_mem run)).post z))
  walk z =
      let c = f.clauses 𝓛 at_mem run in let Post = (walk_of 𝓛 f.ended stayed c).post z in
      let alloc = z.0.3.0 in
      let made : held.the_row.Denot = record { at = null_ptr; alloc = alloc; value = None } in
      qed 𝓛 ((‵ ftrue ⊛ ‵ (fsep (Heap.the_row.own_val alloc z.0.4.0) ftrue)) ∷ raw (emp 𝓤) ∷ []) ∵ split ! $ drop ! $ fsplit ! $
      handle_tells SessionBox.al ! alloc z.0.4.0 (λ hv is fits. move ! (1 ∷ 2 ∷ []) $ drop ! $ drop ! $
      let w : Val = vstruct (of_list (vnull ∷ hv ∷ [])) in
      let Γ : List (Item 𝓤) = ‵ (Heap.the_row.own_val alloc (hv ∷ [])) ∷ [] in
      by ! (subst (λ (us : List Val). ent 𝓤 (types.Kit.⋆ 𝓛 Γ) (WpFn 𝓤 H 𝓣.C 𝓣.Λ code.function (us ++ []) Post)) (sym is)
      (qed 𝓛 Γ ∵ enter ! 𝓣.C 𝓣.Λ code.function (hv ∷ []) _ $ alloc_all ! (λ locals. pass_all ! refl (fits, tt) $
      sets ! (agg ! (and_then ! (lit ! tt) (and_then ! (get ! refl) (no_more !)))) refl (and_tt (mir.Val.has_ty (α SessionBox.al) hv) fits.0, (record { fits = lit< tt }, (fits.1, tt))) $ returns ! (look_at ! 0 refl) $ free_all ! refl $
      -- [the allocator]
      nothing ! $ move ! (1 ∷ 0 ∷ []) $ fjoin ! $ feq_i ! (List Val) (vnull ∷ []) (ptr_val null_ptr ∷ []) refl $ fjoin ! $
      feq_i ! (List Val) (w ∷ []) (w ∷ []) refl $ fjoin ! $
      fpack ! (Valss (RawPtr ∷ Form.P SessionBox ∷ [])) (within (shape (Form.owning SessionBox)) (null_ptr, (alloc, tt)) (w ∷ [])) (vnull ∷ [], (hv ∷ [], tt)) $
      nothing ! $ move ! (1 ∷ 0 ∷ []) $ fjoin ! $ use1 𝓛 (‵ (held.the_row.own_val made (w ∷ []))) (id⊢ 𝓤 _) $
      suffices ! _ (ends_at 𝓛 f.ended stayed c z w made (tt, tt) (tt, tt)) $ says ! refl $
      nothing ! $ nothing ! $ fjoin ! $ join ! $ nothing ! $ join ! $ done !))))

pub none_spec : {M : Type 1} → statement M
unfolding tables_of
none_spec 𝓤 𝓛 𝓜 𝓡 wired =
    let 𝓣 : Tables 𝓤 𝓛.H = tables_of 𝓤 𝓛.H 𝓜 (tables 𝓤 𝓛.H 𝓜 𝓡 𝓡.env) in
    entered 𝓤 𝓛.H (triple_of 𝓛 f.signature (f.spec 𝓛 𝓜.mem 𝓡.returns)) 𝓣.C 𝓣.Λ key code.function (code.unfolded 𝓤 𝓛.H 𝓜 𝓡 wired)
    (walk_Meets 𝓛 f.ended stayed (Goes-dropped 𝓛 0 GlobalSlot yes (λ κs x g. refl), tt) (f.clauses 𝓛 𝓜.mem 𝓡.returns) (WpFn 𝓤 𝓛.H 𝓣.C 𝓣.Λ code.function) (WpFn-mono 𝓤 𝓛.H 𝓛.laws 𝓣 code.function)
    (walk 𝓛 𝓜.mem 𝓡.returns 𝓣))
