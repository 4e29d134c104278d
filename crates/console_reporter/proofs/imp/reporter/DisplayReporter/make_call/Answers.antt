use Rattle.console_reporter.proofs.imp.reporter.DisplayReporter.make_call.Goals as goal

pub returns-in-Event : goal.returns-in-Event
returns-in-Event g c = rw c.in-Event.is c.write_event.ensures

pub returns-in-Header : goal.returns-in-Header
returns-in-Header g c = rw c.in-Header.is c.write_replay_header.ensures

pub returns-in-Prefix : goal.returns-in-Prefix
returns-in-Prefix g c = rw c.in-Prefix.is c.copy_prefix.ensures
