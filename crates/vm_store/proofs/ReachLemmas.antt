-- Marks on the blocks that versions reach, as a walk over the versions sets them.
use Rattle.std.proofs.Common.{◌≡◌, ℕ, ◌+◌, ◌<◌, ◌≤◌, Bool, List, [], ◌∷◌, length, get_or, take, refl, sym, subst, append-nil}
use Rattle.std.proofs.lemmas.List.{take_all}
use Rattle.vm_disk.specs.Disk.{Contents, Medium}
use Rattle.vm_check.specs.Marks.{AreUnder, IsClosed, MarksMore}
use Rattle.vm_check.proofs.JoinLemmas.{last_of, joined_front}
use Rattle.vm_check.proofs.MarkLemmas.{more_then}
use Rattle.vm_check.proofs.RootLemmas.{in_blocks}
use Rattle.vm_store.specs.Marks.{IsReached, AreReached}
use Rattle.vm_store.specs.Sizes.{sizes}
use Rattle.vm_store.specs.declared.version.Version.{Version}

-- the blocks of the first i versions were marked, and no others
pub record ReachedSoFar (x : Contents) (limit : ℕ) (vs : List Version) (i : ℕ) (first now : List Bool) : Type 0 where
  pub marked : (bs : List ℕ) → AreReached x limit (take i vs) bs → IsClosed x first → MarksMore bs first now
  pub closed : (bs : List ℕ) → AreReached x limit (take i vs) bs → IsClosed x first → IsClosed x now

-- the two roots of a version
both_under : (x : Contents) (limit : ℕ) (v : Version) (bs : List ℕ) → IsReached x limit v bs → AreUnder sizes x limit (v.current ∷ v.base ∷ []) bs
both_under x limit v bs (current, base, under, under', is) =
    (current, base, under, (base, [], under', refl, sym (append-nil base)), is)

-- what a marking of both roots did
pub record MarksBoth (x : Contents) (limit : ℕ) (v : Version) (now then : List Bool) : Type 0 where
  pub more : (ds : List ℕ) → AreUnder sizes x limit (v.current ∷ v.base ∷ []) ds → IsClosed x now → MarksMore ds now then
  pub closed : (ds : List ℕ) → AreUnder sizes x limit (v.current ∷ v.base ∷ []) ds → IsClosed x now → IsClosed x then

module _ (x : Contents) (limit : ℕ) (vs : List Version) (i : ℕ) (v : Version) (lt : i < length vs) (is : v ≡ get_or vs i v) where
  pub reached_more : (first now then : List Bool) → ReachedSoFar x limit vs i first now → MarksBoth x limit v now then → ReachedSoFar x limit vs (i + 1) first then
  reached_more first now then so_far both = record {
    marked = λ bs joined closed.
        let s = last_of (IsReached x limit) vs i v bs lt joined in
        let own = both_under x limit v s.own (subst (λ (u : Version). IsReached x limit u s.own) (sym is) s.last) in
        subst (λ (ds : List ℕ). MarksMore ds first then) (sym s.blocks)
        (more_then s.before s.own first now then (so_far.marked s.before s.front closed) (both.more s.own own (so_far.closed s.before s.front closed)));
    closed = λ bs joined closed.
        let s = last_of (IsReached x limit) vs i v bs lt joined in
        let own = both_under x limit v s.own (subst (λ (u : Version). IsReached x limit u s.own) (sym is) s.last) in
        both.closed s.own own (so_far.closed s.before s.front closed);
  }

  -- a fault at one of them
  pub reached_fault : (first now : List Bool) (F : Type 0) → ReachedSoFar x limit vs i first now → ((ds : List ℕ) → AreUnder sizes x limit (v.current ∷ v.base ∷ []) ds → IsClosed x now → F)
      → (bs : List ℕ) → AreReached x limit vs bs → IsClosed x first → F
  reached_fault first now F so_far step bs joined closed =
      let front = joined_front (IsReached x limit) vs (i + 1) bs joined in
      let s = last_of (IsReached x limit) vs i v front.0 lt front.1 in
      step s.own (both_under x limit v s.own (subst (λ (u : Version). IsReached x limit u s.own) (sym is) s.last)) (so_far.closed s.before s.front closed)

-- all of them
pub all_marked : (x : Contents) (limit : ℕ) (vs : List Version) (i : ℕ) (bs : List ℕ) (first now : List Bool) → length vs ≤ i → ReachedSoFar x limit vs i first now → AreReached x limit vs bs → IsClosed x first → MarksMore bs first now
all_marked x limit vs i bs first now all so_far joined closed = so_far.marked bs (subst (λ (us : List Version). AreReached x limit us bs) (sym (take_all i vs all)) joined) closed

pub all_closed : (x : Contents) (limit : ℕ) (vs : List Version) (i : ℕ) (bs : List ℕ) (first now : List Bool) → length vs ≤ i → ReachedSoFar x limit vs i first now → AreReached x limit vs bs → IsClosed x first → IsClosed x now
all_closed x limit vs i bs first now all so_far joined closed = so_far.closed bs (subst (λ (us : List Version). AreReached x limit us bs) (sym (take_all i vs all)) joined) closed

-- a marking of both roots on a disk that was only read since
pub marks_both : (old mid : Medium) (limit other : ℕ) (v : Version) (now then : List Bool) → mid ≡ old → other ≡ limit
    → ((ds : List ℕ) → AreUnder sizes mid.contents other (v.current ∷ v.base ∷ []) ds → IsClosed mid.contents now → MarksMore ds now then)
    → ((ds : List ℕ) → AreUnder sizes mid.contents other (v.current ∷ v.base ∷ []) ds → IsClosed mid.contents now → IsClosed mid.contents then)
    → MarksBoth old.contents limit v now then
marks_both old mid limit other v now then same count more closed = record {
  more = λ ds under clear. more ds (here ds under) (subst (λ (m : Medium). IsClosed m.contents now) (sym same) clear);
  closed = λ ds under clear. subst (λ (m : Medium). IsClosed m.contents then) same (closed ds (here ds under) (subst (λ (m : Medium). IsClosed m.contents now) (sym same) clear));
}
  where
    here : (ds : List ℕ) → AreUnder sizes old.contents limit (v.current ∷ v.base ∷ []) ds → AreUnder sizes mid.contents other (v.current ∷ v.base ∷ []) ds
    here ds under = in_blocks sizes mid.contents limit other (v.current ∷ v.base ∷ []) ds count (subst (λ (m : Medium). AreUnder sizes m.contents limit (v.current ∷ v.base ∷ []) ds) (sym same) under)

pub fault_both : (old mid : Medium) (limit other : ℕ) (v : Version) (now : List Bool) (F : Type 0) → mid ≡ old → other ≡ limit
    → ((ds : List ℕ) → AreUnder sizes mid.contents other (v.current ∷ v.base ∷ []) ds → IsClosed mid.contents now → F)
    → (ds : List ℕ) → AreUnder sizes old.contents limit (v.current ∷ v.base ∷ []) ds → IsClosed old.contents now → F
fault_both old mid limit other v now F same count step ds under clear =
    step ds (in_blocks sizes mid.contents limit other (v.current ∷ v.base ∷ []) ds count (subst (λ (m : Medium). AreUnder sizes m.contents limit (v.current ∷ v.base ∷ []) ds) (sym same) under))
    (subst (λ (m : Medium). IsClosed m.contents now) (sym same) clear)
