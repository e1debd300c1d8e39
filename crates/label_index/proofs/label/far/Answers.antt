-- Labels of two kinds, and texts, have no distance.
use Rattle.std.proofs.Common.{pos, [], refl}
use Rattle.label_index.proofs.Rows.{numbers_at, times_at, texts_at}
use Rattle.label_index.proofs.label.far.Goals as goal

pub returns-in-Time : goal.returns-in-Time
returns-in-Time c = rw (numbers_at _ _ _ _ (pos 0) c.in-Numbers.is c.requires, c.in-Time.is) refl

pub returns-in-Int-label : goal.returns-in-Int-label
returns-in-Int-label c = rw (times_at _ _ _ _ (pos 0) c.in-Times.is c.requires, c.in-Int-label.is) refl

pub returns-in-Texts : goal.returns-in-Texts
returns-in-Texts c = rw (texts_at _ _ _ [] c.in-Texts.is c.requires) refl
