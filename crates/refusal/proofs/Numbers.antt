-- No refusal has the number of an answer: case by case.
use mathlib.Core.Path.{refl}
use Rattle.refusal.specs.Number.{NoAnswer}
use Rattle.refusal.specs.declared.Refusal.{Refusal}

pub no_answer : NoAnswer
no_answer Refusal.Length = refl
no_answer Refusal.RecordZero = refl
no_answer Refusal.ChainStep = refl
no_answer Refusal.ChainRecord = refl
no_answer Refusal.PointCount = refl
no_answer Refusal.SlotNumber = refl
no_answer Refusal.Distance = refl
no_answer Refusal.Reflectrix = refl
no_answer Refusal.MufInput = refl
no_answer Refusal.MufLists = refl
no_answer Refusal.MufHops = refl
no_answer Refusal.TimeBlock = refl
no_answer Refusal.Angle = refl
no_answer Refusal.F2m3 = refl
no_answer Refusal.Tariff = refl
no_answer Refusal.Seconds = refl
no_answer Refusal.Prices = refl
no_answer Refusal.Traces = refl
no_answer Refusal.Owner = refl
no_answer Refusal.SheetLength = refl
