use Rattle.std.proofs.Common.{◌≡◌, sym, ◌∙◌, false, is_some}
use Rattle.iim_c.specs.Format.Checking.{limits_for}
use Rattle.iim_handle.proofs.Closed.{closed_none, put_new_opens, stays_closed_without_memory}
use Rattle.iim_handle.proofs.opening.iim_unpacker_open.Goals as goal

pub put_new-requires : goal.put_new-requires
put_new-requires c = closed_none c.args.handle.now.owner.home (sym c.if-handle.false ∙ c.args.handle.now.owned)

pub returns-in_default : goal.returns-in_default
returns-in_default c =
    stays_closed_without_memory (limits_for c.args.limits) c.args.handle.now.owner.home
    (closed_none c.args.handle.now.owner.home (sym c.if-handle.false ∙ c.args.handle.now.owned))

pub returns : goal.returns
returns c =
    put_new_opens (limits_for c.args.limits) c.limits.result c.args.handle.now.owner.home c.put_new.new.handle.owner.home c.in-Ok.unpacker c.put_new.result
    (closed_none c.args.handle.now.owner.home (sym c.if-handle.false ∙ c.args.handle.now.owned)) c.limits.ensures c.in-Ok.ensures.stands
    c.in-Ok.ensures.limits c.in-Ok.ensures.room c.put_new.ensures
