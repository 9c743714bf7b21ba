use Rattle.pst_kept_files.proofs.LifeLemmas.{means_keeps, kept_once, whole_lives}
use Rattle.pst_kept_files.proofs.laws.lives.Goals as goal

pub returns-clause-once : goal.returns-clause-once
returns-clause-once c = kept_once

pub returns-clause-lives : goal.returns-clause-lives
returns-clause-lives c = whole_lives

pub returns-clause-means : goal.returns-clause-means
returns-clause-means c = means_keeps
