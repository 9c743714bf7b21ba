use Rattle.std.proofs.Common.{sym, subst, refl}
use Rattle.pst_history.specs.History.{begun, opening}
use Rattle.pst_linerun.specs.declared.session.LineSession.{LineSession}
use Rattle.pst_linerun.specs.Standing.{SessionStands}
use Rattle.pst_linerun.proofs.Starting.{started-stands}
use Rattle.pst_linerun.proofs.laws.a_new_session_stands.Goals as goal

pub returns : goal.returns
returns g c =
    let m = (g.C.Meant.meant c.args.code.now).meaning in
    let s = g.S.HeapAt.state c.args.store.now in
    let stored = g.S.LineCalls.stored c.args.store.now in
    let stands = started-stands m c.code.ensures.lawful s stored c.known_line.ensures.means c.known_line.ensures.chain c.requires.store in
    let Q : LineSession → Type 0 = λ x. SessionStands m x s stored (begun (opening m.shape)) in
    subst Q (sym c.requires.new) (record { works = refl; stands = stands })
