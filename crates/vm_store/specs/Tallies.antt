-- How far an alternative has gone from its base and from its parent, in numbers.
use Rattle.std.specs.Prelude.{ℕ, List, Option, Some, None, Result, Ok, Err, is_ok, length}
use Rattle.vm_types.specs.declared.command.Command.TheVariants.{Post}
use Rattle.vm_types.specs.declared.refusal.Refusal.{Refusal}
use Rattle.vm_types.specs.declared.refusal.Refusal.TheVariants.{NoSuchAlternative, IsTop}
use Rattle.vm_types.specs.Map.{Map, delta, conflicts, same_map}
use Rattle.vm_types.specs.Step.{step}
use Rattle.vm_types.specs.Tree.{Tree, Alternative, named}
use Rattle.vm_store.specs.declared.tally.Tally.{Tally}

-- what is counted of a base, and of the maps that its parent and the alternative made of it
abbrev pub tally_between : Map → Map → Map → Tally
tally_between base parent own = record {
  changed = length (delta base own);
  unmerged = length (delta base parent);
  conflicts = length (conflicts base parent own);
  can_post = same_map base parent;
}

-- the numbers of an alternative with this parent: the lengths of its list of changes, of that of what its parent changed since its
-- base, and of that of its conflicts; and whether a Post of it would be accepted
abbrev pub tally_with : Tree → Option Alternative → Alternative → Result Tally Refusal
tally_with tree None a = Err NoSuchAlternative
tally_with tree (Some p) a = Ok (record {
  changed = length (delta a.base a.current);
  unmerged = length (delta a.base p.current);
  conflicts = length (conflicts a.base p.current a.current);
  can_post = is_ok (step tree (Post a.name));
})

-- its numbers under the parent of this name, if it has one
abbrev pub tally_under : Tree → Option (List ℕ) → Alternative → Result Tally Refusal
tally_under tree None a = Err IsTop
tally_under tree (Some parent) a = tally_with tree (named tree parent) a

-- the numbers of an alternative, or why there are none
abbrev pub tally_of : Tree → Option Alternative → Result Tally Refusal
tally_of tree None = Err NoSuchAlternative
tally_of tree (Some a) = tally_under tree a.parent a

abbrev pub tally_in : Tree → List ℕ → Result Tally Refusal
tally_in tree alt = tally_of tree (named tree alt)
