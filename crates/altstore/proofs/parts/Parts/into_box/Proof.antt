-- `into_box` gives the pointer and what it owns to `from_raw`.
use Rattle.altstore.proofs.Walking.{◌≡◌, refl, sym, subst, ap, List, [], ◌∷◌, ◌++◌, T, Ura, Body, Fn, assign, copy, place, return, rv_opd, seq, inst_fn, Val, WT, has_ty, vptr, SProp, ent, id⊢, flft, fsep, ftrue, ◌⊑◌, Fun, fact, tables, tables_of, Memory, Routine, Tables, WpFn, WpFn-mono, fm_of, Logic, Item, ‵, raw, ◌⊛◌, some, later, at_ret, ◌$◌, ◌∵◌, !, qed, by, move, drop, use1, join, split, split3, pick, rewrite, fsplit, fjoin, feq_i, suffices, await, done, sub, whole, and_then, blocks, enter, exec, first, fld, no_more, of_opd, returns, stop, alloc_all, env, free_all, get, get_in, lands_last, look_at, pass_all, sets, no, RattleType, block_ptr, plain, heard, nothing, only, calls_at_last, Clauses, Ended, triple_of, Contract, Triple, entered, Stays, ends_at, says, stay_dropped, walk_Meets, walk_of, Goes-blank, token, box_owns, Bx, box_typed, word, box_in, box_out}
use Rattle.std_alloc.proofs.BoxSteps.Form
use Rattle.std_alloc.specs.contracts.boxed.Box.from_raw as Shut
use Rattle.std_alloc.proofs.boxed.Box.from_raw.Symbol as shutting
use Rattle.std_alloc.proofs.boxed.Box.from_raw.Met as shuts
use Rattle.altstore.specs.contracts.parts.Parts as parts
use Rattle.altstore.specs.contracts.parts.Parts.into_box as f
use Rattle.altstore.specs.contracts.parts.Parts.into_box.Key.{name as key}
use Rattle.altstore.proofs.parts.Parts.into_box.Statement.{statement}
use Rattle.altstore.proofs.parts.Parts.into_box.Code as code

-- what is left to do after the call
abbrev rest : Body
rest = seq (assign (place 0 []) (rv_opd (copy (place 4 [])))) return

module _ (E : Bx) where
  abbrev at_types : Fn
  at_types = inst_fn (Form.args E) code.function

  abbrev ended : Ended
  ended = f.ended E.row E.al.row E.al.g E.al.d E.al.drops

  abbrev Parted : RattleType
  Parted = parts.the_row (Form.R E) (Form.P E) E.al.g

  abbrev stayed : Stays ended.signature.params ended.kept
  stayed = (stay_dropped (plain (λ _. Parted)) no, tt)

  module _ {M : Type 1} {𝓤 : Ura M} (𝓛 : Logic 𝓤) (at_mem : Memory → SProp 𝓤) (run : Routine → Fun 𝓤) (𝓣 : Tables 𝓤 𝓛.H) where
    open 𝓛 use {H}

    abbrev held : Clauses 𝓤 ended
    held = f.clauses E.row E.al.row E.al.g E.al.d E.al.drops 𝓛 at_mem run

    abbrev Shuts : Contract 𝓤
    Shuts = triple_of 𝓛 (Shut.signature E.row E.al.row E.al.g E.al.d E.al.drops) (Shut.spec E.row E.al.row E.al.g E.al.d E.al.drops 𝓛 at_mem run)

    walk : Triple 𝓤 (𝓣.C (shutting.name (Form.args E))) Shuts → (z : (walk_of 𝓛 ended stayed held).Ghost)
        → ent 𝓤 ((walk_of 𝓛 ended stayed held).pre z) (WpFn 𝓤 H 𝓣.C 𝓣.Λ at_types (z.0.4.0 ++ []) ((walk_of 𝓛 ended stayed held).post z))
    walk known z =
        let κs = z.0.0 in let qs = z.0.1 in let alloc = z.0.3.0.alloc in let value = z.0.3.0.value in let Post = (walk_of 𝓛 ended stayed held).post z in
        let parted : Form.D E = record { ptr = z.0.3.0.at; alloc = alloc; value = value } in
        let tokens : Item 𝓤 = ‵ (flft κs.0 qs.0) ⊛ ‵ (flft κs.1.0 qs.1.0) ⊛ ‵ ftrue in
        let value_lives : Item 𝓤 = raw (fact 𝓤 (κs.0 ⊑ E.row.lives)) in let alloc_lives : Item 𝓤 = raw (fact 𝓤 (κs.1.0 ⊑ E.al.row.lives)) in
        qed 𝓛 ((tokens ⊛ ‵ (fsep ((Form.B E).own_val parted z.0.4.0) ftrue)) ∷ (value_lives ⊛ alloc_lives ⊛ ‵ ftrue) ∷ []) ∵ split ! $ move ! (1 ∷ []) $ fsplit ! $
        box_out E ! parted z.0.4.0 (λ b o hv e is fits. fjoin ! $
        let y : Shuts.Ghost = ((κs, qs, tt, (alloc, (block_ptr b o, tt)), (hv ∷ [], (vptr b o ∷ [], tt))), value) in
        let Γ : List (Item 𝓤) = ‵ (box_owns (token E.al alloc) (Form.R E) (block_ptr b o) value) ∷ ‵ ((Form.P E).own_val alloc (hv ∷ [])) ∷ ‵ ftrue ∷ tokens ∷ (value_lives ⊛ alloc_lives ⊛ ‵ ftrue) ∷ [] in
        by ! (subst (λ (us : List Val). ent 𝓤 (types.Kit.⋆ 𝓛 Γ) (WpFn 𝓤 H 𝓣.C 𝓣.Λ at_types (us ++ []) Post)) (sym is)
        (qed 𝓛 Γ ∵ enter ! 𝓣.C 𝓣.Λ at_types (word E hv b o ∷ []) _ $ alloc_all ! (λ locals. pass_all ! refl (box_typed E hv b o fits, tt) $
        sets ! (of_opd ! (get_in ! (fld ! refl (stop !)) (sub ! 0 refl (whole !)))) refl (tt, tt) $
        sets ! (of_opd ! (get_in ! (fld ! refl (stop !)) (sub ! 1 refl (whole !)))) refl fits $
        first ! $ blocks ! $ sets ! (of_opd ! (get ! refl)) refl fits $
        move ! (4 ∷ []) $ split3 ! $ move ! (2 ∷ []) $ drop ! $ move ! (1 ∷ 2 ∷ []) $ join ! $ move ! (1 ∷ 0 ∷ []) $ join ! $
        -- [what the call requires; the allocator; nothing; the tokens]
        move ! (2 ∷ []) $ feq_i ! (List Val) (vptr b o ∷ []) (vptr b o ∷ []) refl $ fjoin ! $ move ! (2 ∷ 0 ∷ []) $ fjoin ! $ move ! (2 ∷ 0 ∷ []) $ join ! $ join ! $ use1 𝓛 (raw (Shuts.pre y)) (id⊢ 𝓤 _) $
        calls_at_last ! (fm_of 𝓤 H 𝓛.laws 𝓣) Shuts known y (and_then ! (get ! refl) (and_then ! (get ! refl) (no_more !))) (λ u.
        use1 𝓛 (later (some (λ (r : Form.D E). (tokens ⊛ ‵ ((Form.B E).own_val r (u ∷ [])))
        ⊛ some (λ (_ : Unit {0} × (Unit {0} × Unit {0})). ‵ (fsep ftrue (fsep ftrue ftrue)) ⊛ (raw (fact 𝓤 (r.value ≡ value)) ⊛ raw (fact 𝓤 (r.alloc ≡ alloc))))))) (id⊢ 𝓤 _) $
        await ! tt $ pick ! (λ r. split ! $ move ! (1 ∷ []) $ pick ! (λ _. split3 ! $ drop ! $ heard ! (r.value ≡ value) (λ same. drop ! $ split ! $ move ! (1 ∷ []) $
        box_out E ! r (u ∷ []) (λ b' o' hw e' is' fits'. box_in E ! r b' o' r.value e' refl $ rewrite ! 0 (λ (us : List Val). ‵ ((Form.B E).own_val r us)) (sym is') refl $
        let typed : T (has_ty (Form.box_ty E) u) × WT u = subst (λ (s : Val). T (has_ty (Form.box_ty E) s) × WT s) (sym (ap only is')) (box_typed E hw b' o' fits') in
        lands_last ! refl typed $ exec ! 𝓣.C 𝓣.Λ (env at_types.locals locals) rest (at_ret (env at_types.locals locals) Post) $
        sets ! (of_opd ! (get ! refl)) refl typed $ returns ! (look_at ! 0 refl) $ free_all ! refl $
        suffices ! _ (ends_at 𝓛 ended stayed held z u r ((tt, (tt, tt)), tt) (tt, tt)) $ says ! same $
        nothing ! $ nothing ! $ fjoin ! $ join ! $ move ! (1 ∷ 0 ∷ []) $ join ! $ done !)))))))))

pub into_box_spec : {M : Type 1} → statement M
unfolding tables_of
into_box_spec 𝓤 𝓛 𝓜 𝓡 wired X Z lawsX lawsZ ghosts d drops allocator freed =
    let E : Bx = record { row = X; laws = lawsX; al = record { row = Z; laws = lawsZ; g = ghosts; d = d; drops = drops } } in
    let 𝓣 : Tables 𝓤 𝓛.H = tables_of 𝓤 𝓛.H 𝓜 (tables 𝓤 𝓛.H 𝓜 𝓡 𝓡.env) in
    let fn = at_types E in
    entered 𝓤 𝓛.H (triple_of 𝓛 (ended E).signature (f.spec X Z ghosts d drops 𝓛 𝓜.mem 𝓡.returns)) 𝓣.C 𝓣.Λ (key (Form.args E)) fn (code.unfolded 𝓤 𝓛.H 𝓜 𝓡 wired (X, (Z, tt)) d drops)
    (walk_Meets 𝓛 (ended E) (stayed E) (Goes-blank 𝓛 2 (plain (λ _. Parted E)) no (λ κs x g. tt), tt) (held E 𝓛 𝓜.mem 𝓡.returns 𝓣) (WpFn 𝓤 𝓛.H 𝓣.C 𝓣.Λ fn) (WpFn-mono 𝓤 𝓛.H 𝓛.laws 𝓣 fn)
    (walk E 𝓛 𝓜.mem 𝓡.returns 𝓣 (shuts.met 𝓤 𝓛 𝓜 𝓡 (code.calls-std_alloc::boxed::Box::from_raw 𝓡.env wired) X Z lawsX lawsZ ghosts d drops allocator freed)))
