-- `of_parts` moves two fields, and what they own goes with them.
use Rattle.altstore.proofs.Walking.{refl, sym, subst, List, [], ◌∷◌, ◌++◌, Ura, Val, SProp, emp, ent, id⊢, fsep, ftrue, Fun, tables, tables_of, Memory, Routine, Tables, WpFn, WpFn-mono, Logic, Item, ‵, raw, ◌⊛◌, ◌$◌, ◌∵◌, !, qed, by, move, drop, use1, join, split, fsplit, fjoin, suffices, done, agg, sub, whole, and_then, enter, fld, no_more, of_opd, returns, stop, alloc_all, free_all, get, get_in, look_at, pass_all, sets, yes, type_at, nothing, triple_of, entered, Goes-dropped, Stays, ends_at, says, stay_dropped, walk_Meets, walk_of, box_typed, word, box_in, box_out}
use Rattle.std.specs.Prelude.{Some}
use Rattle.std_alloc.proofs.BoxSteps.Form
use Rattle.altstore.proofs.Boxes.{SessionBox, SessionParts}
use Rattle.altstore.specs.contracts.held.Held.of_parts as f
use Rattle.altstore.specs.contracts.held.Held.of_parts.Key.{name as key}
use Rattle.altstore.proofs.held.Held.of_parts.Statement.{statement}
use Rattle.altstore.proofs.held.Held.of_parts.Code as code

abbrev stayed : Stays f.ended.signature.params f.ended.kept
stayed = (stay_dropped SessionParts yes, tt)

module _ {M : Type 1} {𝓤 : Ura M} (𝓛 : Logic 𝓤) (at_mem : Memory → SProp 𝓤) (run : Routine → Fun 𝓤) (𝓣 : Tables 𝓤 𝓛.H) where
  open 𝓛 use {H}

  walk : (z : (walk_of 𝓛 f.ended stayed (f.clauses 𝓛 at_mem run)).Ghost)
      → ent 𝓤 ((walk_of 𝓛 f.ended stayed (f.clauses 𝓛 at_mem run)).pre z) (WpFn 𝓤 H 𝓣.C 𝓣.Λ code.function (z.0.4.0 ++ []) ((walk_of 𝓛 f.ended stayed (f.clauses 𝓛 at_mem run)).post z))
  walk z =
      let c = f.clauses 𝓛 at_mem run in let Post = (walk_of 𝓛 f.ended stayed c).post z in
      let box : Form.D SessionBox = record { ptr = z.0.3.0.at; alloc = z.0.3.0.alloc; value = z.0.3.0.value } in
      let Made = type_at f.signature.result tt in
      let made : Made.Denot = record { at = box.ptr; alloc = box.alloc; value = Some box.value } in
      qed 𝓛 ((‵ ftrue ⊛ ‵ (fsep ((Form.B SessionBox).own_val box z.0.4.0) ftrue)) ∷ raw (emp 𝓤) ∷ []) ∵ split ! $ drop ! $ fsplit ! $
      box_out SessionBox ! box z.0.4.0 (λ b o hv e is fits. box_in SessionBox ! box b o box.value e refl $
      let w = word SessionBox hv b o in let typed = box_typed SessionBox hv b o fits in
      use1 𝓛 (‵ (Made.own_val made (w ∷ []))) (id⊢ 𝓤 _) $ move ! (1 ∷ 2 ∷ []) $ drop ! $ drop ! $
      let Γ : List (Item 𝓤) = ‵ (Made.own_val made (w ∷ [])) ∷ [] in
      by ! (subst (λ (us : List Val). ent 𝓤 (types.Kit.⋆ 𝓛 Γ) (WpFn 𝓤 H 𝓣.C 𝓣.Λ code.function (us ++ []) Post)) (sym is)
      (qed 𝓛 Γ ∵ enter ! 𝓣.C 𝓣.Λ code.function (w ∷ []) _ $ alloc_all ! (λ locals. pass_all ! refl (typed, tt) $
      sets ! (of_opd ! (get_in ! (fld ! refl (stop !)) (sub ! 0 refl (whole !)))) refl (tt, tt) $
      sets ! (of_opd ! (get_in ! (fld ! refl (stop !)) (sub ! 1 refl (whole !)))) refl fits $
      sets ! (of_opd ! (get ! refl)) refl (tt, tt) $
      sets ! (agg ! (and_then ! (get ! refl) (and_then ! (get ! refl) (no_more !)))) refl typed $ returns ! (look_at ! 0 refl) $ free_all ! refl $
      suffices ! _ (ends_at 𝓛 f.ended stayed c z w made (tt, tt) (tt, tt)) $ says ! refl $
      nothing ! $ nothing ! $ fjoin ! $ join ! $ nothing ! $ join ! $ done !))))

pub of_parts_spec : {M : Type 1} → statement M
unfolding tables_of
of_parts_spec 𝓤 𝓛 𝓜 𝓡 wired =
    let 𝓣 : Tables 𝓤 𝓛.H = tables_of 𝓤 𝓛.H 𝓜 (tables 𝓤 𝓛.H 𝓜 𝓡 𝓡.env) in
    entered 𝓤 𝓛.H (triple_of 𝓛 f.signature (f.spec 𝓛 𝓜.mem 𝓡.returns)) 𝓣.C 𝓣.Λ key code.function (code.unfolded 𝓤 𝓛.H 𝓜 𝓡 wired)
    (walk_Meets 𝓛 f.ended stayed (Goes-dropped 𝓛 0 SessionParts yes (λ κs x g. refl), tt) (f.clauses 𝓛 𝓜.mem 𝓡.returns) (WpFn 𝓤 𝓛.H 𝓣.C 𝓣.Λ code.function) (WpFn-mono 𝓤 𝓛.H 𝓛.laws 𝓣 code.function)
    (walk 𝓛 𝓜.mem 𝓡.returns 𝓣))
