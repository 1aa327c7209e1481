-- `of` takes a box apart, and its parts own what it owned.
use Rattle.altstore.proofs.Walking.{◌≡◌, refl, sym, subst, ap, ◌∙◌, List, [], ◌∷◌, ◌++◌, Ura, Args, Dict, Fn, a_type, dcons, dnil, inst_fn, bare, Val, of_list, vstruct, SProp, ent, fst∗, id⊢, never, flft, fsep, ftrue, ◌⊑◌, Fun, fact, tables, tables_of, Memory, Routine, Tables, WpFn, WpFn-mono, fm_of, Logic, sem, Item, ‵, raw, ◌⊛◌, some, later, ◌$◌, ◌∵◌, !, qed, by, move, drop, use1, join, split, split3, pick, rewrite, fsplit, fjoin, fpick, feq_l, suffices, await, done, agg, sub, whole, and_then, enter, fld, no_more, of_opd, returns, stop, alloc_all, free_all, get, get_in, lands_as, look_at, pass_all, sets, no, bounded, RattleType, Ptr, RawPtr, block_ptr, in_a_block, null_ptr, ptr_val, plain, heard, nothing, only, Tuple, calls_at, Clauses, Ended, triple_of, Contract, Triple, entered, Stays, ends_at, says, stay_dropped, walk_Meets, walk_of, Goes-blank, handle_tells, token, box_owns, Bx, box_typed, word, box_in, box_out}
use Rattle.std_alloc.proofs.BoxSteps.Form
use Rattle.std_alloc.specs.contracts.boxed.Box.into_raw_with_allocator as Opened
use Rattle.std_alloc.proofs.boxed.Box.into_raw_with_allocator.Symbol as opening
use Rattle.std_alloc.proofs.boxed.Box.into_raw_with_allocator.Met as opens
use Rattle.altstore.specs.contracts.parts.Parts as parts
use Rattle.altstore.specs.contracts.parts.Parts.of as f
use Rattle.altstore.specs.contracts.parts.Parts.of.Key.{name as key}
use Rattle.altstore.proofs.parts.Parts.of.Statement.{statement}
use Rattle.altstore.proofs.parts.Parts.of.Code as code

module _ (E : Bx) (dropped : Dict) where
  abbrev args : Args
  args = bounded (a_type ∷ a_type ∷ []) (E.row, (E.al.row, tt)) (dcons E.al.d (dcons E.al.drops (dcons dropped dnil)))

  abbrev at_types : Fn
  at_types = inst_fn args code.function

  abbrev ended : Ended
  ended = f.ended E.row E.al.row E.al.g E.al.d E.al.drops dropped

  abbrev stayed : Stays ended.signature.params ended.kept
  stayed = (stay_dropped (plain (λ _. Form.B E)) no, tt)

  abbrev Made : RattleType
  Made = parts.the_row (Form.R E) (Form.P E) E.al.g

  module _ {M : Type 1} {𝓤 : Ura M} (𝓛 : Logic 𝓤) (at_mem : Memory → SProp 𝓤) (run : Routine → Fun 𝓤) (𝓣 : Tables 𝓤 𝓛.H) where
    open 𝓛 use {H}

    abbrev held : Clauses 𝓤 ended
    held = f.clauses E.row E.al.row E.al.g E.al.d E.al.drops dropped 𝓛 at_mem run

    abbrev Opens : Contract 𝓤
    Opens = triple_of 𝓛 (Opened.signature E.row E.al.row E.al.g E.al.d E.al.drops dropped) (Opened.spec E.row E.al.row E.al.g E.al.d E.al.drops dropped 𝓛 at_mem run)

    walk : Triple 𝓤 (𝓣.C (opening.name args)) Opens → (z : (walk_of 𝓛 ended stayed held).Ghost)
        → ent 𝓤 ((walk_of 𝓛 ended stayed held).pre z) (WpFn 𝓤 H 𝓣.C 𝓣.Λ at_types (z.0.4.0 ++ []) ((walk_of 𝓛 ended stayed held).post z))
    walk known z =
        let κs = z.0.0 in let qs = z.0.1 in let box = z.0.3.0 in let Post = (walk_of 𝓛 ended stayed held).post z in
        let tokens : Item 𝓤 = ‵ (flft κs.0 qs.0) ⊛ ‵ (flft κs.1.0 qs.1.0) ⊛ ‵ ftrue in
        let alive : Item 𝓤 = raw (fact 𝓤 (κs.0 ⊑ E.row.lives)) ⊛ raw (fact 𝓤 (κs.1.0 ⊑ E.al.row.lives)) ⊛ ‵ ftrue in
        qed 𝓛 ((tokens ⊛ ‵ (fsep ((Form.B E).own_val box z.0.4.0) ftrue)) ∷ alive ∷ []) ∵ split ! $ move ! (1 ∷ []) $ fsplit ! $
        box_out E ! box z.0.4.0 (λ b o hv e is fits. box_in E ! box b o box.value e refl $
        let w = word E hv b o in
        let y : Opens.Ghost = ((κs, qs, tt, (box, tt), (w ∷ [], tt)), tt) in
        let Γ : List (Item 𝓤) = ‵ ((Form.B E).own_val box (w ∷ [])) ∷ ‵ ftrue ∷ tokens ∷ alive ∷ [] in
        by ! (subst (λ (us : List Val). ent 𝓤 (types.Kit.⋆ 𝓛 Γ) (WpFn 𝓤 H 𝓣.C 𝓣.Λ at_types (us ++ []) Post)) (sym is)
        (qed 𝓛 Γ ∵ enter ! 𝓣.C 𝓣.Λ at_types (w ∷ []) _ $ alloc_all ! (λ locals. pass_all ! refl (box_typed E hv b o fits, tt) $
        sets ! (of_opd ! (get ! refl)) refl (box_typed E hv b o fits) $
        -- [the box; nothing; the tokens; that the types live]
        fjoin ! $ move ! (1 ∷ 0 ∷ []) $ join ! $ join ! $ use1 𝓛 (raw (Opens.pre y)) (id⊢ 𝓤 _) $
        calls_at ! (fm_of 𝓤 H 𝓛.laws 𝓣) Opens known y (and_then ! (get ! refl) (no_more !)) (λ u.
        use1 𝓛 (later (some (λ (r : Ptr × E.al.row.Denot). (tokens ⊛ ‵ ((Tuple (RawPtr ∷ Form.P E ∷ [])).own_val r (u ∷ [])))
        ⊛ some (λ (_ : (Unit {0} × (Unit {0} × Unit {0})) × Unit {0}). ‵ (fsep (fsep ftrue (fsep ftrue ftrue)) ftrue)
        ⊛ (raw (fact 𝓤 (r.1 ≡ box.alloc)) ⊛ ‵ (box_owns (token E.al box.alloc) (Form.R E) r.0 box.value)))))) (id⊢ 𝓤 _) $
        await ! tt $ pick ! (λ r. split ! $ move ! (1 ∷ []) $ pick ! (λ _. split3 ! $ drop ! $ heard ! (r.1 ≡ box.alloc) (λ same.
        in_a_block ! r.0 (λ p. box_owns (token E.al box.alloc) (Form.R E) p box.value) (fst∗ 𝓤 (never 𝓤) (sem 𝓛 (token E.al box.alloc (bare (Form.τ E)) null_ptr))) (λ b' o' e'.
        -- the pair that the call gave, its allocator that of the box
        move ! (1 ∷ []) $ split ! $ move ! (1 ∷ []) $ fpick ! (λ vss. fsplit ! $ feq_l ! (λ pair_is. fsplit ! $ feq_l ! (λ ptr_is. fsplit ! $
        rewrite ! 0 (λ (s : E.al.row.Denot). ‵ (E.al.row.own_val s vss.1.0)) same refl $ handle_tells E.al ! box.alloc vss.1.0 (λ hw handle_is fits'.
        let parted : Form.D E = record { ptr = block_ptr b' o'; alloc = box.alloc; value = box.value } in
        let made : Made.Denot = record { at = block_ptr b' o'; alloc = box.alloc; value = box.value } in
        lands_as ! (ap only (pair_is ∙ (λ j. vstruct (of_list ((ptr_is ∙ ap (λ (p : Ptr). ptr_val p ∷ []) e') j ++ (handle_is j ++ []))) ∷ []))) refl (box_typed E hw b' o' fits') $
        sets ! (of_opd ! (get_in ! (fld ! refl (stop !)) (sub ! 0 refl (whole !)))) refl (tt, tt) $
        sets ! (of_opd ! (get_in ! (fld ! refl (stop !)) (sub ! 1 refl (whole !)))) refl fits' $ sets ! (of_opd ! (get ! refl)) refl fits' $
        sets ! (agg ! (and_then ! (get ! refl) (and_then ! (get ! refl) (no_more !)))) refl (box_typed E hw b' o' fits') $ returns ! (look_at ! 0 refl) $ free_all ! refl $
        -- [the allocator; nothing; the tokens; the value with the right to free it]
        move ! (3 ∷ []) $ fsplit ! $ box_in E ! parted b' o' box.value refl refl $ use1 𝓛 (‵ (Made.own_val made (word E hw b' o' ∷ []))) (id⊢ 𝓤 _) $ move ! (1 ∷ []) $ drop ! $
        suffices ! _ (ends_at 𝓛 ended stayed held z (word E hw b' o') made ((tt, (tt, tt)), tt) (tt, tt)) $ says ! refl $
        nothing ! $ nothing ! $ fjoin ! $ join ! $ move ! (1 ∷ 0 ∷ []) $ join ! $ done !)))))))))))))

pub of_spec : {M : Type 1} → statement M
unfolding tables_of
of_spec 𝓤 𝓛 𝓜 𝓡 wired X Z lawsX lawsZ ghosts d drops dropped allocator freed glue =
    let E : Bx = record { row = X; laws = lawsX; al = record { row = Z; laws = lawsZ; g = ghosts; d = d; drops = drops } } in
    let 𝓣 : Tables 𝓤 𝓛.H = tables_of 𝓤 𝓛.H 𝓜 (tables 𝓤 𝓛.H 𝓜 𝓡 𝓡.env) in
    let fn = at_types E dropped in
    entered 𝓤 𝓛.H (triple_of 𝓛 (ended E dropped).signature (f.spec X Z ghosts d drops dropped 𝓛 𝓜.mem 𝓡.returns)) 𝓣.C 𝓣.Λ (key (args E dropped)) fn (code.unfolded 𝓤 𝓛.H 𝓜 𝓡 wired (X, (Z, tt)) d drops dropped)
    (walk_Meets 𝓛 (ended E dropped) (stayed E dropped) (Goes-blank 𝓛 2 (plain (λ _. Form.B E)) no (λ κs x g. tt), tt) (held E dropped 𝓛 𝓜.mem 𝓡.returns 𝓣) (WpFn 𝓤 𝓛.H 𝓣.C 𝓣.Λ fn) (WpFn-mono 𝓤 𝓛.H 𝓛.laws 𝓣 fn)
    (walk E dropped 𝓛 𝓜.mem 𝓡.returns 𝓣 (opens.met 𝓤 𝓛 𝓜 𝓡 (code.calls-std_alloc::boxed::Box::into_raw_with_allocator 𝓡.env wired) X Z lawsX lawsZ ghosts d drops dropped allocator freed glue)))
