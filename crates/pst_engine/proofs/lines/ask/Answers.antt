use Rattle.pst_history.proofs.Accepting.{query-accepted}
use Rattle.pst_engine_runs.proofs.Slicing.{if-ok-map}
use Rattle.pst_engine.proofs.lines.ask.Goals as goal

pub query-requires : goal.query-requires
query-requires g c = record {
  active = c.args.engine.now.active.items.items;
  history = c.requires.history;
  stands = c.requires.stands;
  accepted =
      query-accepted (g.C.Meant.meant c.args.code.now).meaning c.requires.history c.args.first.now c.requires.accepted;
}

pub returns-clause-ok : goal.returns-clause-ok
returns-clause-ok g c = if-ok-map c.query.result c.query.ensures.ok
    (λ r all h stand none. let is = all c.args.engine.now.active.items.items h stand
    (query-accepted (g.C.Meant.meant c.args.code.now).meaning h c.args.first.now none) in record { stands = λ range. is.stands; reply = is.reply })
