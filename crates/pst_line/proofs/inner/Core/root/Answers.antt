use Rattle.pst_line.proofs.Roots.{version_root_named, version_root_lives, run_root_named, run_root_lives}
use Rattle.pst_line.proofs.inner.Core.root.Goals as goal

pub returns-in-Some-clause-name : goal.returns-in-Some-clause-name
returns-in-Some-clause-name g c = version_root_named _ _ c.self.view_is c.self.invariant c.args.at c.requires c.deref.result.now c.deref.ensures.value c.in-Some.version.now c.in-Some.ensures.lookup.3.0 (c.in-Some.ensures.lookup.3.1 _)

pub returns-in-Some-clause-live : goal.returns-in-Some-clause-live
returns-in-Some-clause-live g c = version_root_lives _ _ c.self.view_is c.self.invariant c.args.at c.requires c.deref.result.now c.deref.ensures.value c.in-Some.version.now c.in-Some.ensures.lookup.3.0 (c.in-Some.ensures.lookup.3.1 _)

pub returns-in-None-clause-name : goal.returns-in-None-clause-name
returns-in-None-clause-name g c = run_root_named _ _ c.self.view_is c.self.invariant c.args.at c.requires c.deref.result.now c.deref.ensures.value c.in-None.ensures.lookup.3

pub returns-in-None-clause-live : goal.returns-in-None-clause-live
returns-in-None-clause-live g c = run_root_lives _ _ c.self.view_is c.self.invariant c.args.at c.requires c.deref.result.now c.deref.ensures.value c.in-None.ensures.lookup.3
