mod LiftValues
