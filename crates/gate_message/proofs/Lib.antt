mod BothSpelled
