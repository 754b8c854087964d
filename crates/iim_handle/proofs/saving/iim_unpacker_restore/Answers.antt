use Rattle.std.proofs.Common.{◌≡◌, sym, ◌∙◌, false, is_some}
use Rattle.iim_c.specs.Format.Checking.{limits_for}
use Rattle.iim_handle.proofs.Closed.{closed_none, put_new_restores, stays_closed_after_fault}
use Rattle.iim_handle.proofs.saving.iim_unpacker_restore.Goals as goal

pub put_new-requires : goal.put_new-requires
put_new-requires c = closed_none c.args.handle.now.owner.home (sym c.if-handle.false ∙ c.args.handle.now.owned)

pub returns-in-Ok : goal.returns-in-Ok
returns-in-Ok c =
    put_new_restores (limits_for c.args.limits) c.limits.result c.args.ticket.now c.args.at c.args.handle.now.owner.home c.put_new.new.handle.owner.home
    c.in-Ok.unpacker c.put_new.result c.status_answer-in-Ok.result
    (closed_none c.args.handle.now.owner.home (sym c.if-handle.false ∙ c.args.handle.now.owned)) c.limits.ensures c.in-Ok.ensures.restored
    c.in-Ok.ensures.room c.status_answer-in-Ok.ensures c.put_new.ensures

pub returns-in-Err : goal.returns-in-Err
returns-in-Err c =
    stays_closed_after_fault (limits_for c.args.limits) c.limits.result c.args.ticket.now c.args.at c.args.handle.now.owner.home c.in-Err.fault
    c.ticket_answer.result
    (closed_none c.args.handle.now.owner.home (sym c.if-handle.false ∙ c.args.handle.now.owned)) c.limits.ensures c.in-Err.ensures.fault
    c.ticket_answer.ensures
