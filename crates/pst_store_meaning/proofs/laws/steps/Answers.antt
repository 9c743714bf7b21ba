use Rattle.pst_store_meaning.proofs.Forking.{fork_law, fork_refused_law, fork_broken_law}
use Rattle.pst_store_meaning.proofs.Publishing.{publish_law}
use Rattle.pst_store_meaning.proofs.Stepping.{allocate_law, value_law, null_law, link_law, split_step_law}
use Rattle.pst_store_meaning.proofs.laws.steps.Goals as goal

pub returns : goal.returns
returns c = record {
  fork = fork_law;
  fork_refused = fork_refused_law;
  fork_broken = fork_broken_law;
  publish = publish_law;
  allocate =
      allocate_law;
  value = value_law;
  null = null_law;
  link = link_law;
  split = split_step_law;
}
