use native.Mathlib.Omega.{arith}
use Rattle.repertoire.specs.Repertoire.{catalogue}
use Rattle.motion_words.proofs.Landings.{pos_end, pos_found, pos_behind, pos_nothing, pos_last}
use Rattle.motion_words.proofs.Places.{landing_fits}
use Rattle.motion_words.proofs.next_word_pos.Goals as goal

pub returns-then-pos-s : goal.returns-then-pos-s
returns-then-pos-s c = pos_end catalogue _ _ _ _ _ c.if-pos-s.true

pub overflow_add-result : goal.overflow_add-result
overflow_add-result c =
    let a = c.args in
    let f = landing_fits catalogue a.s.now a.pos a.at a.word a.n c.next_word-l.result c.requires c.next_word-l.ensures in
    omega arith

pub returns-then-found-ne0 : goal.returns-then-found-ne0
returns-then-found-ne0 c =
    let a = c.args in
    pos_found catalogue _ a.pos a.at a.word a.n c.if-pos-s.false _ c.next_word-l.ensures c.if-found-ne0.true

pub returns-then-lands_behind : goal.returns-then-lands_behind
returns-then-lands_behind c =
    let a = c.args in
    pos_behind catalogue _ a.pos a.at a.word a.n c.if-pos-s.false _ c.next_word-l.ensures c.if-found-ne0.false _
    c.lands_behind.ensures c.if-lands_behind.true

pub returns-then-last-eq0 : goal.returns-then-last-eq0
returns-then-last-eq0 c =
    let a = c.args in
    pos_nothing catalogue _ a.pos a.at a.word a.n c.if-pos-s.false _ c.next_word-l.ensures c.if-found-ne0.false _
    c.lands_behind.ensures c.if-lands_behind.false c.if-last-eq0.true

pub overflow_add-result-2 : goal.overflow_add-result-2
overflow_add-result-2 c =
    let a = c.args in
    let f = landing_fits catalogue a.s.now a.pos a.at a.word a.n c.next_word-l.result c.requires
    c.next_word-l.ensures in
    omega arith

pub returns : goal.returns
returns c =
    let a = c.args in
    pos_last catalogue _ a.pos a.at a.word a.n c.if-pos-s.false _ c.next_word-l.ensures c.if-found-ne0.false _
    c.lands_behind.ensures c.if-lands_behind.false c.if-last-eq0.false
