-- The states that batches leave.
use Rattle.std.proofs.Common.{◌≡◌, ◌∙◌, ℕ, false, List, [], ◌∷◌, ◌++◌, Result, Ok, Err, ap, sym, refl, append_assoc}
use Rattle.vm_types.specs.declared.answer.Answer.{Answer}
use Rattle.vm_types.specs.declared.command.Command.{Command}
use Rattle.vm_types.specs.declared.refusal.Refusal.{Refusal}
use Rattle.vm_types.specs.State.{State, after, is_commit, next}
use Rattle.vm_types.specs.Tree.{Tree}
use Rattle.vm_cli.specs.session.Rounds.{AllWhole, Batch, CommitNothing, IsSettled, IsWhole, Round, after_batch, after_batches, after_round, after_rounds, all_answers, all_commands, committed_batches, round_answers, round_commands}
use Rattle.vm_cli.specs.session.Rounds.Round.{broken, committed, idle, undone, unsure}

-- a command that is no commit leaves what is committed
next_keeps : (s : State) (c : Command) (a : Result Answer Refusal) → is_commit c ≡ false → ((next s c a).committed ≡ s.committed) × ((next s c a).kept ≡ s.kept)
next_keeps s c (Ok answer) never = (rw never refl, rw never refl)
next_keeps s c (Err refusal) never = (refl, refl)

-- and so do more of them
pub after_keeps : (s : State) (commands : List Command) (answers : List (Result Answer Refusal)) → CommitNothing commands
    → ((after s commands answers).committed ≡ s.committed) × ((after s commands answers).kept ≡ s.kept)
after_keeps s [] answers none = (refl, refl)
after_keeps s (c ∷ commands) [] none = (refl, refl)
after_keeps s (c ∷ commands) (a ∷ answers) none =
    let here = next_keeps s c a none.0 in
    let rest = after_keeps (next s c a) commands answers none.1 in
    (rest.0 ∙ here.0, rest.1 ∙ here.1)

-- all that is not committed is undone
abbrev back_to : Tree → ℕ → State
back_to tree blocks = record { committed = tree; kept = blocks; working = tree; blocks = blocks }

-- a batch that is undone leaves what was committed
pub undone_leaves : (s : State) (batch : Batch) → IsWhole batch → (answer : Answer) → after_round s (undone batch answer) ≡ back_to s.committed s.kept
undone_leaves s batch whole answer =
    let keeps = after_keeps s batch.commands batch.answers whole.changes in
    ap (λ tree. back_to tree (after s batch.commands batch.answers).kept) keeps.0 ∙ ap (λ blocks. back_to s.committed blocks) keeps.1

-- which is the state itself, if all was committed
pub settled_stays : (s : State) → IsSettled s → (batch : Batch) → IsWhole batch → (answer : Answer) → after_round s (undone batch answer) ≡ s
settled_stays s settled batch whole answer =
    undone_leaves s batch whole answer ∙ ap (λ tree. record s { working = tree; blocks = s.kept }) (sym settled.tree) ∙ ap (λ blocks. record s { blocks = blocks }) (sym settled.blocks)

-- the state after rounds is that after the batches that were committed
pub rounds_are : (s : State) (rounds : List Round) → AllWhole rounds → IsSettled s → after_rounds s rounds ≡ after_batches s (committed_batches rounds)
rounds_are s [] whole settled = refl
rounds_are s (idle ∷ rounds) whole settled = rounds_are s rounds whole.1 settled
rounds_are s (committed batch answer ∷ rounds) whole settled = rounds_are (after_batch s batch) rounds whole.1 (record { tree = refl; blocks = refl })
rounds_are s (undone batch answer ∷ rounds) whole settled =
    ap (λ t. after_rounds t rounds) (settled_stays s settled batch whole.0 answer) ∙ rounds_are s rounds whole.1 settled
rounds_are s (broken batch ∷ rounds) whole settled = rounds_are s rounds whole.1 settled
rounds_are s (unsure batch refusal ∷ rounds) whole settled = rounds_are s rounds whole.1 settled

-- rounds, and more of them
pub commands-append : (first later : List Round) → all_commands (first ++ later) ≡ all_commands first ++ all_commands later
commands-append [] later = refl
commands-append (round ∷ first) later = ap (λ cs. round_commands round ++ cs) (commands-append first later) ∙ sym (append_assoc (round_commands round) (all_commands first) (all_commands later))

pub answers-append : (first later : List Round) → all_answers (first ++ later) ≡ all_answers first ++ all_answers later
answers-append [] later = refl
answers-append (round ∷ first) later = ap (λ rs. round_answers round ++ rs) (answers-append first later) ∙ sym (append_assoc (round_answers round) (all_answers first) (all_answers later))

pub rounds_append : (s : State) (first later : List Round) → after_rounds s (first ++ later) ≡ after_rounds (after_rounds s first) later
rounds_append s [] later = refl
rounds_append s (round ∷ first) later = rounds_append (after_round s round) first later

pub whole_append : (first later : List Round) → AllWhole first → AllWhole later → AllWhole (first ++ later)
whole_append [] later none more = more
whole_append (round ∷ first) later all more = (all.0, whole_append first later all.1 more)
