-- Lines of planners, computed by the definitions: what each of them says.
use Rattle.std.specs.Prelude.{◌≡◌, refl, [], codes}
use Rattle.vm_cli.specs.session.PlannerLines.{joins, leaves, nothing, releases, saying_of, says, strange}
use Rattle.vm_cli.specs.declared.session.planner_line.When.TheVariants.{Later, Now}

join_1 : saying_of (codes "join 1") ≡ joins 1
join_1 = refl

join_0 : saying_of (codes "join 0") ≡ strange
join_0 = refl

join_without_number : saying_of (codes "join") ≡ strange
join_without_number = refl

join_with_a_word_too_many : saying_of (codes "join 1 2") ≡ strange
join_with_a_word_too_many = refl

leave_the_last : saying_of (codes " leave  4294967295 ") ≡ leaves 4294967295
leave_the_last = refl

leave_one_more : saying_of (codes "leave 4294967296") ≡ strange
leave_one_more = refl

line_with_words : saying_of (codes "line 7 get top 1 1") ≡ says Now 7 (codes "get top 1 1")
line_with_words = refl

line_with_spaces : saying_of (codes "line  7  get ") ≡ says Now 7 (codes " get ")
line_with_spaces = refl

line_of_nothing : saying_of (codes "line 7") ≡ says Now 7 []
line_of_nothing = refl

later_with_words : saying_of (codes "later 7 commit") ≡ says Later 7 (codes "commit")
later_with_words = refl

later_without_number : saying_of (codes "later commit") ≡ strange
later_without_number = refl

lone_go : saying_of (codes " go  ") ≡ releases
lone_go = refl

go_with_a_word_too_many : saying_of (codes "go 1") ≡ strange
go_with_a_word_too_many = refl

line_without_number : saying_of (codes "line seven get") ≡ strange
line_without_number = refl

another_word : saying_of (codes "lines 7 get") ≡ strange
another_word = refl

comment : saying_of (codes "# x") ≡ nothing
comment = refl

comment_with_spaces : saying_of (codes "  #x line 7") ≡ nothing
comment_with_spaces = refl

no_bytes : saying_of [] ≡ nothing
no_bytes = refl

only_spaces : saying_of (codes "  ") ≡ nothing
only_spaces = refl
