-- Labels of two kinds stand by their kinds.
use Rattle.std.proofs.Common.{pos, [], refl}
use Rattle.label_index.proofs.Rows.{numbers_at, times_at, texts_at}
use Rattle.label_index.proofs.label.compare.Goals as goal

pub returns-in-Time : goal.returns-in-Time
returns-in-Time c = rw (numbers_at _ _ _ _ (pos 0) c.in-Numbers.is c.requires, c.in-Time.is) refl

pub returns-in-Text : goal.returns-in-Text
returns-in-Text c = rw (numbers_at _ _ _ _ (pos 0) c.in-Numbers.is c.requires, c.in-Text.is) refl

pub returns-in-Int-label : goal.returns-in-Int-label
returns-in-Int-label c = rw (times_at _ _ _ _ (pos 0) c.in-Times.is c.requires, c.in-Int-label.is) refl

pub returns-in-Text-label : goal.returns-in-Text-label
returns-in-Text-label c = rw (times_at _ _ _ _ (pos 0) c.in-Times.is c.requires, c.in-Text-label.is) refl

pub returns-in-Int-label-2 : goal.returns-in-Int-label-2
returns-in-Int-label-2 c = rw (texts_at _ _ _ [] c.in-Texts.is c.requires, c.in-Int-label-2.is) refl

pub returns-in-Time-label-2 : goal.returns-in-Time-label-2
returns-in-Time-label-2 c = rw (texts_at _ _ _ [] c.in-Texts.is c.requires, c.in-Time-label-2.is) refl
