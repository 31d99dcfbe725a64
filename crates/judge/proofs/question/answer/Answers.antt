use Rattle.judge.proofs.Shapes.{words_2, words_3, words_4, words_7, words-other}
use Rattle.judge.proofs.Saying.{says}
use Rattle.judge.proofs.question.answer.Goals as goal

pub two-requires : goal.two-requires
two-requires c = c.requires

pub returns-then-n-eq2 : goal.returns-then-n-eq2
returns-then-n-eq2 c = says (words_2 _ c.count-n.ensures c.if-n-eq2.true) c.two.ensures

pub three-requires : goal.three-requires
three-requires c = c.requires

pub returns-then-n-eq3 : goal.returns-then-n-eq3
returns-then-n-eq3 c = says (words_3 _ c.count-n.ensures c.if-n-eq2.false c.if-n-eq3.true) c.three.ensures

pub four-requires : goal.four-requires
four-requires c = c.requires

pub returns-then-n-eq4 : goal.returns-then-n-eq4
returns-then-n-eq4 c = says (words_4 _ c.count-n.ensures c.if-n-eq2.false c.if-n-eq3.false c.if-n-eq4.true) c.four.ensures

pub seven-requires : goal.seven-requires
seven-requires c = c.requires

pub returns-then-n-eq7 : goal.returns-then-n-eq7
returns-then-n-eq7 c = says (words_7 _ c.count-n.ensures c.if-n-eq2.false c.if-n-eq3.false c.if-n-eq4.false c.if-n-eq7.true) c.seven.ensures

pub returns : goal.returns
returns c = says (words-other _ c.count-n.ensures c.if-n-eq2.false c.if-n-eq3.false c.if-n-eq4.false c.if-n-eq7.false) c.unknown.ensures
