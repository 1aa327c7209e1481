use Rattle.std.proofs.Common.{ℕ, List, Ok, Option, refl}
use Rattle.vm_types.specs.Queries.{changes_in, checkpoints_in, conflicts_in}
use Rattle.vm_types.specs.Shape.{shape}
use Rattle.vm_types.specs.Versions.{delta_at, map_at}
use Rattle.vm_types.specs.declared.key.Key.{Key}
use Rattle.vm_types.specs.declared.refusal.Refusal.TheVariants.{Device, Failed}
use Rattle.vm_store.specs.Parts.{diff_at, from_at, part_at}
use Rattle.vm_store.specs.Store.{Holds}
use Rattle.vm_cli.specs.lines.Asking.{Request}
use Rattle.vm_cli.specs.session.Known.{written_to}
use Rattle.vm_cli.specs.answers.Listings.{alternative_text, change_text, checkpoint_text, conflict_text, record_text}
use Rattle.vm_cli.proofs.ListedLemmas.{is_memory, is_none, list_goes_on, list_handled, names_listed, shape_listed}
use Rattle.vm_cli.proofs.PassLemmas.{passes_none}
use Rattle.vm_cli.proofs.RequestLemmas.{listed_into, query_into}
use Rattle.vm_cli.proofs.session.queries.reply_to_list.Goals as goal

pub returns-in-Records : goal.returns-in-Records
returns-in-Records g c =
    let answer = c.list_at in
    let reply = c.reply_with_list in
    rw c.in-Records.is
    (listed_into c.args.store.now answer.new.self (Request.List c.in-Records.at) (λ (r : Key × List ℕ). record_text r.0 r.1) (λ s. map_at s.working c.in-Records.at) answer.result answer.ensures.query
    (λ x rest. refl) (λ s text failed says. (refl, failed, says, answer.ensures.bound)) (λ text ends is last. (is, last))
    reply.result (written_to g.W.Write.contents c.args.writer.now reply.new.writer) reply.new.text reply.ensures.room reply.ensures.list)

pub returns-in-Part : goal.returns-in-Part
returns-in-Part g c =
    let answer = c.list_part in
    let reply = c.reply_with_list-in-Part in
    rw c.in-Part.is
    (listed_into c.args.store.now answer.new.self (Request.Part c.in-Part.at c.in-Part.low c.in-Part.high) (λ (r : Key × List ℕ). record_text r.0 r.1) (λ s. part_at s.working c.in-Part.at c.in-Part.low c.in-Part.high) answer.result answer.ensures.query
    (λ x rest. refl) (λ s text failed says. (refl, failed, says, answer.ensures.bound)) (λ text ends is last. (is, last))
    reply.result (written_to g.W.Write.contents c.args.writer.now reply.new.writer) reply.new.text reply.ensures.room reply.ensures.list)

pub returns-in-Page : goal.returns-in-Page
returns-in-Page g c =
    let answer = c.list_from in
    let reply = c.reply_with_list-in-Page in
    rw c.in-Page.is
    (listed_into c.args.store.now answer.new.self (Request.Page c.in-Page.at c.in-Page.low c.in-Page.count) (λ (r : Key × List ℕ). record_text r.0 r.1) (λ s. from_at s.working c.in-Page.at c.in-Page.low c.in-Page.count) answer.result answer.ensures.query
    (λ x rest. refl) (λ s text failed says. (refl, failed, says, answer.ensures.bound)) (λ text ends is last. (is, last))
    reply.result (written_to g.W.Write.contents c.args.writer.now reply.new.writer) reply.new.text reply.ensures.room reply.ensures.list)

pub returns-in-Diff : goal.returns-in-Diff
returns-in-Diff g c =
    let answer = c.diff in
    let reply = c.reply_with_list-in-Diff in
    rw c.in-Diff.is
    (listed_into c.args.store.now answer.new.self (Request.Diff c.in-Diff.first c.in-Diff.second) change_text (λ s. delta_at s.working c.in-Diff.first c.in-Diff.second) answer.result answer.ensures.query
    (λ x rest. refl) (λ s text failed says. (refl, failed, says, answer.ensures.bound)) (λ text ends is last. (is, last))
    reply.result (written_to g.W.Write.contents c.args.writer.now reply.new.writer) reply.new.text reply.ensures.room reply.ensures.list)

pub returns-in-DiffPart : goal.returns-in-DiffPart
returns-in-DiffPart g c =
    let answer = c.diff_part-diff in
    let reply = c.reply_with_list-in-DiffPart in
    rw c.in-DiffPart.is
    (listed_into c.args.store.now answer.new.self (Request.DiffPart c.in-DiffPart.first c.in-DiffPart.second c.in-DiffPart.low c.in-DiffPart.high) change_text (λ s. diff_at s.working c.in-DiffPart.first c.in-DiffPart.second c.in-DiffPart.low c.in-DiffPart.high) answer.result answer.ensures.query
    (λ x rest. refl) (λ s text failed says. (refl, failed, says, answer.ensures.bound)) (λ text ends is last. (is, last))
    reply.result (written_to g.W.Write.contents c.args.writer.now reply.new.writer) reply.new.text reply.ensures.room reply.ensures.list)

pub returns-in-Changes : goal.returns-in-Changes
returns-in-Changes g c =
    let answer = c.changes in
    let reply = c.reply_with_list-in-Changes in
    rw c.in-Changes.is
    (listed_into c.args.store.now answer.new.self (Request.Changes c.in-Changes.alt) change_text (λ s. changes_in s.working c.in-Changes.alt) answer.result answer.ensures.query
    (λ x rest. refl) (λ s text failed says. (refl, failed, says, answer.ensures.bound)) (λ text ends is last. (is, last))
    reply.result (written_to g.W.Write.contents c.args.writer.now reply.new.writer) reply.new.text reply.ensures.room reply.ensures.list)

pub returns-in-Conflicts : goal.returns-in-Conflicts
returns-in-Conflicts g c =
    let answer = c.conflicts in
    let reply = c.reply_with_list-in-Conflicts in
    rw c.in-Conflicts.is
    (listed_into c.args.store.now answer.new.self (Request.Conflicts c.in-Conflicts.alt) conflict_text (λ s. conflicts_in s.working c.in-Conflicts.alt) answer.result answer.ensures.query
    (λ x rest. refl) (λ s text failed says. (refl, failed, says, answer.ensures.bound)) (λ text ends is last. (is, last))
    reply.result (written_to g.W.Write.contents c.args.writer.now reply.new.writer) reply.new.text reply.ensures.room reply.ensures.list)

pub returns-in-Alternatives : goal.returns-in-Alternatives
returns-in-Alternatives g c =
    let store = c.args.store.now in
    let said = c.alternatives.ensures in
    let reply = c.reply_with_list-in-Alternatives in
    let text = reply.new.text in
    rw c.in-Alternatives.is
    (query_into store store Request.Alternatives (passes_none store) refl (λ failed. refl)
    reply.result (written_to g.W.Write.contents c.args.writer.now reply.new.writer) text reply.ensures.room
    (λ sound. list_goes_on _ c.alternatives.result reply.result _ _ _ sound (is_memory _ Failed (λ e. cc) (said.only_then sound)) reply.ensures.list)
    (λ s.
    list_handled store store s Request.Alternatives (passes_none store) refl (λ failed. refl) (λ stood. stood.holds)
    (Holds store s) ⊥ (λ (a : List ℕ × Option (List ℕ)). alternative_text a.0 a.1) (λ list. list.items) (Ok (shape s.working)) (λ x rest. refl) (λ text sound says. (refl, sound, (refl, says), tt)) (λ text ends is last. (is, last))
    c.alternatives.result (λ sound. is_memory _ Device (λ e. cc) (said.only_then sound)) said.refused (λ sound. is_memory _ Failed (λ e. cc) (said.only_then sound))
    (λ sound holds. shape_listed c.alternatives.result (shape s.working) (said.only_then sound) (said.value sound s holds)) reply.result _ text reply.ensures.list))

pub returns-in-Checkpoints : goal.returns-in-Checkpoints
returns-in-Checkpoints g c =
    let store = c.args.store.now in
    let said = c.checkpoints.ensures in
    let reply = c.reply_with_list-in-Checkpoints in
    let text = reply.new.text in
    let query = Request.Checkpoints c.in-Checkpoints.alt in
    rw c.in-Checkpoints.is
    (query_into store store query (passes_none store) refl (λ failed. refl)
    reply.result (written_to g.W.Write.contents c.args.writer.now reply.new.writer) text reply.ensures.room
    (λ sound. list_goes_on _ c.checkpoints.result reply.result _ _ _ sound (is_none _ Failed (λ e. cc) (λ e. cc) (said.only_then sound)) reply.ensures.list)
    (λ s.
    list_handled store store s query (passes_none store) refl (λ failed. refl) (λ stood. stood.holds)
    (Holds store s) ⊥ checkpoint_text (λ list. list.items) (checkpoints_in s.working c.in-Checkpoints.alt) (λ x rest. refl) (λ text sound says. (refl, sound, (refl, says), tt)) (λ text ends is last. (is, last))
    c.checkpoints.result (λ sound. is_none _ Device (λ e. cc) (λ e. cc) (said.only_then sound)) said.refused (λ sound. is_none _ Failed (λ e. cc) (λ e. cc) (said.only_then sound))
    (λ sound holds. names_listed c.checkpoints.result _ (said.value sound s holds) (said.none sound s holds)) reply.result _ text reply.ensures.list))
