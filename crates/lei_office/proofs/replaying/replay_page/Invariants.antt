use Rattle.std.proofs.Common.{◌≡◌, ◌++◌, take}
use Rattle.register_history.specs.State.{office_of}
use Rattle.lei_office.proofs.replaying.replay_page.Given as goal

-- the entries of the page so far follow those before the page
abbrev pub invariant-loop-stored : goal.invariant-loop-stored
invariant-loop-stored g l = l.register ≡ office_of l.fn.register.limits (l.fn.register.history ++ take l.stored-index l.page)
