-- Lists that are made of entries, one entry after another.
use Rattle.std.proofs.Common.{◌≡◌, ℕ, zero, suc, ◌+◌, ◌*◌, ◌<◌, ◌≤◌, List, [], ◌∷◌, ◌++◌, length, get_or, take, refl, sym, ap, ◌∙◌, arith, append_assoc, add-one}
use Rattle.vm_block.specs.declared.slot.Entry.{Entry}
use Rattle.vm_tree.specs.declared.root.Root.{Root}
use Rattle.vm_store.specs.Versions.{numbers_of, versions_of}
use Rattle.vm_store.specs.declared.version.Version.{Version}

-- the numbers of one entry more
more_numbers : (es : List Entry) (i : ℕ) (e : Entry) → i < length es → e ≡ get_or es i e → numbers_of (take (suc i) es) ≡ numbers_of (take i es) ++ e.current ∷ e.base ∷ []
more_numbers [] i e lt is = absurd (omega arith)
more_numbers (x ∷ es) zero e lt is = let same : x ≡ e = sym is in ap (λ (d : Entry). d.current ∷ d.base ∷ []) same
more_numbers (x ∷ es) (suc i) e lt is = ap (λ ns. x.current ∷ x.base ∷ ns) (more_numbers es i e (omega arith) is)

pub numbers_more : (es : List Entry) (i : ℕ) (e : Entry) (so_far now : List ℕ) → i < length es → e ≡ get_or es i e → so_far ≡ numbers_of (take i es) → now ≡ so_far ++ e.current ∷ e.base ∷ [] → now ≡ numbers_of (take (i + 1) es)
numbers_more es i e so_far now lt is before added =
    added ∙ ap (λ ns. ns ++ e.current ∷ e.base ∷ []) before ∙ sym (more_numbers es i e lt is) ∙ ap (λ n. numbers_of (take n es)) (sym (add-one i))

-- the version of an entry with these roots
abbrev pub version_with : Entry → Root → Root → Version
version_with e r q = record { kind = e.kind; name = e.name; owner = e.owner; current = r; base = q }

-- the versions of one entry more
more_versions : (es : List Entry) (rs : List Root) (i : ℕ) (e : Entry) (d : Root) → i < length es → 2 * length es ≤ length rs → e ≡ get_or es i e
    → versions_of (take (suc i) es) rs ≡ versions_of (take i es) rs ++ version_with e (get_or rs (2 * i) d) (get_or rs (2 * i + 1) d) ∷ []
more_versions [] rs i e d lt many is = absurd (omega arith)
more_versions (x ∷ es) [] i e d lt many is = absurd (omega arith)
more_versions (x ∷ es) (r ∷ []) i e d lt many is = absurd (omega arith)
more_versions (x ∷ es) (r ∷ q ∷ rs) zero e d lt many is = let same : x ≡ e = sym is in ap (λ (k : Entry). version_with k r q ∷ []) same
more_versions (x ∷ es) (r ∷ q ∷ rs) (suc i) e d lt many is =
    let two : 2 * suc i ≡ suc (suc (2 * i)) = omega arith in
    let three : 2 * suc i + 1 ≡ suc (suc (2 * i + 1)) = omega arith in
    let fewer : i < length es = omega (arith, lt) in
    let some : 2 * length es ≤ length rs = omega (arith, many) in
    let first : get_or (r ∷ q ∷ rs) (2 * suc i) d ≡ get_or rs (2 * i) d = ap (λ n. get_or (r ∷ q ∷ rs) n d) two in
    let then : get_or (r ∷ q ∷ rs) (2 * suc i + 1) d ≡ get_or rs (2 * i + 1) d = ap (λ n. get_or (r ∷ q ∷ rs) n d) three in
    ap (λ vs. version_with x r q ∷ vs) (more_versions es rs i e d fewer some is)
    ∙ ap (λ k. version_with x r q ∷ (versions_of (take i es) rs ++ version_with e k (get_or rs (2 * i + 1) d) ∷ [])) (sym first)
    ∙ ap (λ k. version_with x r q ∷ (versions_of (take i es) rs ++ version_with e (get_or (r ∷ q ∷ rs) (2 * suc i) d) k ∷ [])) (sym then)

pub versions_more : (es : List Entry) (rs : List Root) (i : ℕ) (e : Entry) (d : Root) (first so_far now : List Version) → i < length es → length rs ≡ 2 * length es → e ≡ get_or es i e
    → so_far ≡ first ++ versions_of (take i es) rs → now ≡ so_far ++ version_with e (get_or rs (2 * i) d) (get_or rs (2 * i + 1) d) ∷ [] → now ≡ first ++ versions_of (take (i + 1) es) rs
versions_more es rs i e d first so_far now lt many is before added =
    added ∙ ap (λ vs. vs ++ version_with e (get_or rs (2 * i) d) (get_or rs (2 * i + 1) d) ∷ []) before
    ∙ append_assoc first (versions_of (take i es) rs) (version_with e (get_or rs (2 * i) d) (get_or rs (2 * i + 1) d) ∷ [])
    ∙ ap (λ vs. first ++ vs) (sym (more_versions es rs i e d lt (omega (arith, many)) is) ∙ ap (λ n. versions_of (take n es) rs) (sym (add-one i)))

-- there are as many versions as entries
pub length-versions : (es : List Entry) (rs : List Root) → length rs ≡ 2 * length es → length (versions_of es rs) ≡ length es
length-versions [] rs many = refl
length-versions (e ∷ es) [] many = absurd (omega arith)
length-versions (e ∷ es) (r ∷ []) many = absurd (omega arith)
length-versions (e ∷ es) (r ∷ q ∷ rs) many = ap suc (length-versions es rs (omega arith))

length-numbers : (es : List Entry) → length (numbers_of es) ≡ 2 * length es
length-numbers [] = refl
length-numbers (e ∷ es) = let rest = length-numbers es in omega (arith, rest)

-- two roots for each entry
pub roots_count : (es first lent : List Entry) (numbers lent_numbers : List ℕ) (roots lent_roots : List Root) → lent_roots ≡ roots → length roots ≡ length lent_numbers → lent_numbers ≡ numbers → numbers ≡ numbers_of first
    → first ≡ es → lent ≡ es → length lent_roots ≡ 2 * length lent
roots_count es first lent numbers lent_numbers roots lent_roots same count same' are is is' =
    ap length same ∙ count ∙ ap length (same' ∙ are ∙ ap numbers_of (is ∙ sym is')) ∙ length-numbers lent

-- room for the versions of a slot
pub versions_few : (es : List Entry) (rs : List Root) (first now lent : List Version) → length rs ≡ 2 * length es → length es ≤ 511 → first ≡ [] → now ≡ first ++ versions_of es rs → lent ≡ now → length lent ≤ 511
versions_few es rs first now lent many few none are same =
    let count : length lent ≡ length es = ap length (same ∙ are ∙ ap (λ vs. vs ++ versions_of es rs) none) ∙ length-versions es rs many in omega (arith, count, few)
