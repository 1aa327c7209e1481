-- How the disk below follows a late one, once that noted one moment more.
use Rattle.std.proofs.Common.{◌≡◌, ◌++◌, ◌∙◌, ℕ, arith, None, List, [], ◌∷◌, length, map, true, sym, subst, ap}
use Rattle.std.proofs.lemmas.List.{length-map}
use Rattle.vm_disk.specs.declared.layers.Layers.{Layers}
use Rattle.vm_disk.specs.declared.delayed.DelayedDisk.{DelayedDisk}
use Rattle.vm_disk.specs.Disk.{DiskState, Medium}
use Rattle.vm_disk.specs.Past.{noted}
use Rattle.vm_disk.specs.Delayed.{inner_of, delayed_state, rests_of, FollowsBelow}
use Rattle.vm_disk.specs.Laid.{IsCovered, rests_before, time_at}
use Rattle.vm_disk.specs.Waiting.{bytes_for}
use Rattle.vm_disk.specs.Layers.{lower_of, waiting_of, medium_of, rest_of, IsApart}
use Rattle.vm_disk.proofs.LaidLemmas.{UnderPast, covered_after, covered_before, laid_none, media_before, time_newest, time_rises, under_meanwhile}

module _ {D : Type 0} {members : _} (state : D → DiskState) where
  -- one call more
  pub covered_on : (old new : Layers D members) (earlier now : List (Layers D members)) (before : List Medium) → now ≡ old ∷ earlier
      → IsCovered (state (lower_of old)) (rest_of state old) (map (rest_of state) earlier ++ rests_before before) → IsApart state old new
      → IsCovered (state (lower_of new)) (rest_of state new) (map (rest_of state) now ++ rests_before before)
  covered_on old new earlier now before noted so_far apart =
      let R : List (Layers D members) → Type 0 = λ layers. IsCovered (state (lower_of new)) (rest_of state new) (map (rest_of state) layers ++ rests_before before) in
      subst R (sym noted) (covered_after (bytes_for (waiting_of old)) (state (lower_of old)) (state (lower_of new)) (medium_of state new) (map (rest_of state) earlier ++ rests_before before) so_far apart)

  -- no call yet
  pub covered_first : (first : D) (layers : Layers D members) (noted : List (Layers D members)) → first ≡ lower_of layers → noted ≡ []
      → IsCovered (state (lower_of layers)) (rest_of state layers) (map (rest_of state) noted ++ rests_before (state first).past)
  covered_first first layers noted is none =
      let R : List (Layers D members) → Type 0 = λ earlier. IsCovered (state (lower_of layers)) (rest_of state layers) (map (rest_of state) earlier ++ rests_before (state first).past) in
      let S : D → Type 0 = λ d. IsCovered (state (lower_of layers)) (rest_of state layers) (rests_before (state d).past) in
      subst R (sym none) (subst S (sym is) (covered_before (state (lower_of layers)) (medium_of state layers)))

  -- it holds and held what the disk does and did
  pub idle_now : (disk : D) (layers : Layers D members) → lower_of layers ≡ disk → ((n : ℕ) → bytes_for (waiting_of layers) n ≡ None) → medium_of state layers ≡ (state disk).now
  idle_now disk layers is none = laid_none (bytes_for (waiting_of layers)) (state (lower_of layers)).now none ∙ ap (λ (d : D). (state d).now) is

  pub idle_past : (disk first : D) (noted : List (Layers D members)) → first ≡ disk → noted ≡ [] → map (medium_of state) noted ++ (state first).past ≡ (state disk).past
  idle_past disk first noted is none =
      ap (λ (layers : List (Layers D members)). map (medium_of state) layers ++ (state first).past) none ∙ ap (λ (d : D). (state d).past) is

  same_media : (layers : List (Layers D members)) (before : List Medium)
      → map (λ rest. rest.medium) (map (rest_of state) layers ++ rests_before before) ≡ map (medium_of state) layers ++ before
  same_media [] before = media_before before
  same_media (l ∷ layers) before = ap (λ (ms : List Medium). medium_of state l ∷ ms) (same_media layers before)

  -- so the disk below follows
  pub follows_below : (delayed : DelayedDisk D members)
      → ((delayed_state state delayed).honest ≡ true → IsCovered (state (inner_of delayed)) (rest_of state delayed.layers) (rests_of state delayed))
      → (delayed_state state delayed).honest ≡ true → FollowsBelow state delayed
  follows_below delayed covered honest =
      record {
        time = time_at (rest_of state delayed.layers ∷ rests_of state delayed);
        first = (covered honest).first;
        last = time_newest (rest_of state delayed.layers) (rests_of state delayed) _ many;
        rising = λ k less. time_rises (state (inner_of delayed)) (rest_of state delayed.layers) (rests_of state delayed) (covered honest).each k (omega (arith, less, many));
        under = λ k t m within meanwhile at.
            let R : List Medium → Type 0 = λ ms. UnderPast (medium_of state delayed.layers ∷ ms) k m in
            subst R media
            (under_meanwhile (bytes_for (waiting_of delayed.layers)) (state (inner_of delayed)) (rests_of state delayed) (covered honest).each k t m (omega (arith, within, many)) meanwhile at);
      }
    where
      media : map (λ rest. rest.medium) (rests_of state delayed) ≡ (delayed_state state delayed).past
      media = same_media (noted delayed.past) (state delayed.first.value).past

      many : length (delayed_state state delayed).past ≡ length (rests_of state delayed)
      many = ap (λ (ms : List Medium). length ms) (sym media) ∙ length-map (rests_of state delayed) (λ rest. rest.medium)
