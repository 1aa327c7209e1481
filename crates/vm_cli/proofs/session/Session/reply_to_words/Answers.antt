use Rattle.std.proofs.Common.{None, Ok, refl}
use Rattle.vm_cli.specs.lines.Asking.{Request}
use Rattle.vm_cli.specs.lines.Requested.{list_for}
use Rattle.vm_cli.specs.lines.Requests.{asked_in, request_of}
use Rattle.vm_cli.specs.lines.Spaces.{words_of}
use Rattle.vm_cli.specs.session.Known.{between, written_to}
use Rattle.vm_cli.specs.declared.answers.reply.Reply.TheVariants as reply
use Rattle.vm_cli.proofs.RequestLemmas.{asked_as, bad_asked, in_session, list_reads, memory_into, nothing_by, query_by, query_with, reads_alone, reads_in, reply_into}
use Rattle.vm_cli.proofs.session.Session.reply_to_words.Goals.{in-Merge-1, in-New-1}
use Rattle.vm_cli.proofs.session.Session.reply_to_words.Goals as goal

pub returns-in-Nothing : goal.returns-in-Nothing
returns-in-Nothing g c =
    let self = c.args.self.now in
    let store = self.store.now in
    let on = self.manner.on_command in
    let asked = asked_in on Request.Nothing in
    rw (← c.in-Ok.ensures.asked, c.in-Nothing.is)
    (in_session g.W.Write.contents asked _ self _ (record { store = refl; writer = refl; manner = refl })
    (reply_into store store asked reply.Nothing (g.W.Write.contents self.writer.now) self.text c.requires (nothing_by store asked (reads_alone on Request.Nothing refl))))

pub returns-in-Bad : goal.returns-in-Bad
returns-in-Bad g c =
    let self = c.args.self.now in
    let store = self.store.now in
    let on = self.manner.on_command in
    let bad = Request.Bad c.in-Bad.mistake in
    let asked = asked_in on bad in
    rw (← c.in-Ok.ensures.asked, c.in-Bad.is)
    (in_session g.W.Write.contents asked _ self _ (record { store = refl; writer = refl; manner = refl })
    (reply_into store store asked (reply.BadLine c.in-Bad.mistake) (g.W.Write.contents self.writer.now) self.text c.requires (asked_as store store asked bad (reads_alone on bad refl) _ (bad_asked store c.in-Bad.mistake))))

pub returns-in-Command : goal.returns-in-Command
returns-in-Command g c =
    let self = c.args.self.now in
    let asked = asked_in self.manner.on_command (Request.Command c.in-Command.command) in
    let asks = reply_into self.store.now c.reply_to_command.new.store asked c.reply_to_command.result (g.W.Write.contents self.writer.now) self.text c.requires c.reply_to_command.ensures in
    rw (← c.in-Ok.ensures.asked, c.in-Command.is)
    (elim c.match-command.branch [
      | in-Merge-1 w ↦ rw w.self-is (in_session g.W.Write.contents asked _ self _ (record { store = refl; writer = refl; manner = refl }) asks)
      | in-New-1 w ↦ rw w.self-is (in_session g.W.Write.contents asked _ self _ (record { store = refl; writer = refl; manner = refl }) asks)
    ])

pub returns-in-MergeAll : goal.returns-in-MergeAll
returns-in-MergeAll g c =
    let self = c.args.self.now in
    let asked = asked_in self.manner.on_command (Request.MergeAll None c.in-MergeAll.alt c.in-MergeAll.side c.in-MergeAll.settled) in
    rw (← c.in-Ok.ensures.asked, c.in-MergeAll.is)
    (in_session g.W.Write.contents asked _ self _ (record { store = refl; writer = refl; manner = refl })
    (reply_into self.store.now c.reply_to_merge_all.new.store asked c.reply_to_merge_all.result (g.W.Write.contents self.writer.now) self.text c.requires c.reply_to_merge_all.ensures))

pub returns-in-Get : goal.returns-in-Get
returns-in-Get g c =
    let self = c.args.self.now in
    let old = self.store.now in
    let new = c.get.new.store in
    let on = self.manner.on_command in
    let query = Request.Get c.in-Get.at c.in-Get.key in
    rw (← c.in-Ok.ensures.asked, c.in-Get.is)
    (in_session g.W.Write.contents (asked_in on query) _ self _ (record { store = refl; writer = refl; manner = refl })
    (reads_in on old new query refl (Ok c.get.result) (between (g.W.Write.contents self.writer.now) (g.W.Write.contents self.writer.now)) c.get.new.text
    (query_with old new query c.get.result (g.W.Write.contents self.writer.now) c.get.new.text c.get.ensures)))

pub returns-in-Tally : goal.returns-in-Tally
returns-in-Tally g c =
    let self = c.args.self.now in
    let old = self.store.now in
    let new = c.tally.new.store in
    let on = self.manner.on_command in
    let query = Request.Tally c.in-Tally.alt in
    rw (← c.in-Ok.ensures.asked, c.in-Tally.is)
    (in_session g.W.Write.contents (asked_in on query) _ self _ (record { store = refl; writer = refl; manner = refl })
    (reads_in on old new query refl (Ok c.tally.result) (between (g.W.Write.contents self.writer.now) (g.W.Write.contents self.writer.now)) self.text
    (reply_into old new query c.tally.result (g.W.Write.contents self.writer.now) self.text c.requires (query_by old new query c.tally.result c.tally.ensures))))

pub returns-in-Free : goal.returns-in-Free
returns-in-Free g c =
    let self = c.args.self.now in
    let store = self.store.now in
    let on = self.manner.on_command in
    rw (← c.in-Ok.ensures.asked, c.in-Free.is)
    (in_session g.W.Write.contents (asked_in on Request.Free) _ self _ (record { store = refl; writer = refl; manner = refl })
    (reads_in on store store Request.Free refl (Ok c.free.result) (between (g.W.Write.contents self.writer.now) (g.W.Write.contents self.writer.now)) self.text
    (reply_into store store Request.Free c.free.result (g.W.Write.contents self.writer.now) self.text c.requires (query_by store store Request.Free c.free.result c.free.ensures))))

pub returns-in-Blocks : goal.returns-in-Blocks
returns-in-Blocks g c =
    let self = c.args.self.now in
    let store = self.store.now in
    let on = self.manner.on_command in
    rw (← c.in-Ok.ensures.asked, c.in-Blocks.is)
    (in_session g.W.Write.contents (asked_in on Request.Blocks) _ self _ (record { store = refl; writer = refl; manner = refl })
    (reads_in on store store Request.Blocks refl (Ok c.blocks-in-Blocks.result) (between (g.W.Write.contents self.writer.now) (g.W.Write.contents self.writer.now)) self.text
    (reply_into store store Request.Blocks c.blocks-in-Blocks.result (g.W.Write.contents self.writer.now) self.text c.requires (query_by store store Request.Blocks c.blocks-in-Blocks.result c.blocks-in-Blocks.ensures))))

pub returns-in-List : goal.returns-in-List
returns-in-List g c =
    let self = c.args.self.now in
    let on = self.manner.on_command in
    let query = list_for c.in-List.query in
    rw (← c.in-Ok.ensures.asked, c.in-List.is)
    (in_session g.W.Write.contents (asked_in on query) _ self _ (record { store = refl; writer = refl; manner = refl })
    (reads_in on self.store.now c.reply_to_list.new.store query (list_reads c.in-List.query) c.reply_to_list.result (written_to g.W.Write.contents self.writer.now c.reply_to_list.new.writer) c.reply_to_list.new.text c.reply_to_list.ensures))

pub returns-in_default : goal.returns-in_default
returns-in_default g c =
    let asked = asked_in c.args.self.now.manner.on_command (request_of (words_of c.args.line.now)) in
    in_session g.W.Write.contents asked _ c.args.self.now _ (record { store = refl; writer = refl; manner = refl })
    (memory_into c.args.self.now.store.now asked (g.W.Write.contents c.args.self.now.writer.now) c.args.self.now.text c.requires)
