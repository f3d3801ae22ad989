use Rattle.file_text_laws.proofs.Law.{built_are_numbered, text_describes, text_gives_back}
use Rattle.file_text_laws.proofs.texts_of_modules.Goals as goal

pub returns-clause-numbered : goal.returns-clause-numbered
returns-clause-numbered c = built_are_numbered

pub returns-clause-describes : goal.returns-clause-describes
returns-clause-describes c = text_describes

pub returns-clause-gives_back : goal.returns-clause-gives_back
returns-clause-gives_back c = text_gives_back
